use Rattle.std.proofs.Common.{◌≡◌, ◌||◌, ◌∷◌, ◌++◌, [], sym, ap, ◌∙◌, subst, arith, inr}
use Rattle.std.specs.List.{AllByRecursion}
use Rattle.lt_sense.specs.Gathered.{ranges_in}
use Rattle.lt_sense.specs.Held.{held_in, indexes}
use Rattle.lt_sense.specs.Sense.{gap_covers}
use Rattle.lt_sense.specs.Spans.{have, under, IsSpans}
use Rattle.lt_sense.proofs.Added.{have_last}
use Rattle.lt_sense.proofs.Costs.{held_next, indexes_next}
use Rattle.lt_sense.proofs.Sorted.{all_push}
use Rattle.lt_sense.proofs.Spanned.{range_in}
use Rattle.lt_sense.proofs.gathering.add_new.Goals as goal

pub returns-clause-sound : goal.returns-clause-sound
returns-clause-sound c =
    subst (AllByRecursion IsSpans) (sym c.in_ok-push.ensures.items) (all_push IsSpans c.args.lists.now.items c.add.new.self c.requires.sound c.in_ok-add.ensures.sound)

pub returns-clause-added : goal.returns-clause-added
returns-clause-added c relation row below =
    let lists = c.args.lists.now.items in
    let fresh = c.new-list.result in
    let prefix = c.args.prefix.now in
    let is : under fresh prefix c.args.lo c.args.hi ≡ range_in c.args.relation c.args.perm.now prefix c.args.lo c.args.hi =
    ap (λ n. range_in n fresh.columns prefix c.args.lo c.args.hi) c.new-list.ensures.relation ∙ ap (λ cs. range_in c.args.relation cs prefix c.args.lo c.args.hi) (c.new-list.ensures.columns ∙ c.in_ok-columns.ensures) in
    ap (λ xs. have (ranges_in xs) relation row) c.in_ok-push.ensures.items
    ∙ have_last lists c.add.new.self relation row
    ∙ ap (λ b. have (ranges_in lists) relation row || b)
    (c.in_ok-add.ensures.added relation row below ∙ ap (λ b. b || gap_covers (under fresh prefix c.args.lo c.args.hi) relation row) (c.new-list.ensures.none relation row below) ∙ ap (λ range. gap_covers range relation row) is)

pub returns-clause-indexes : goal.returns-clause-indexes
returns-clause-indexes c =
    let lists = c.args.lists.now.items in
    let list = c.add.new.self in
    inr (
      ap indexes c.in_ok-push.ensures.items ∙ indexes_next lists list
          ∙ ap (λ n. indexes lists ++ (n, list.columns) ∷ []) (c.in_ok-add.ensures.same.relation ∙ c.new-list.ensures.relation)
          ∙ ap (λ cs. indexes lists ++ (c.args.relation, cs) ∷ []) (c.in_ok-add.ensures.same.columns ∙ c.new-list.ensures.columns ∙ c.in_ok-columns.ensures),
      c.requires.absent,
    )

pub returns-clause-few : goal.returns-clause-few
returns-clause-few c =
    let e = ap held_in c.in_ok-push.ensures.items ∙ held_next c.args.lists.now.items c.add.new.self in
    let f = c.new-list.ensures.few in
    let g = c.in_ok-add.ensures.few in
    omega (arith, e, f, g)
