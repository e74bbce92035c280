use Rattle.std.proofs.Common.{◌≡◌, ◌++◌, ◌∷◌, [], length, slice_get, ap, ◌∙◌, arith, inr}
use Rattle.lt_sense.specs.Held.{held_in, indexes}
use Rattle.lt_sense.proofs.ByKeyAdded.{tell_empty}
use Rattle.lt_sense.proofs.Costs.{held_next, indexes_next}
use Rattle.lt_sense.proofs.Growth.{get_next}
use Rattle.lt_sense.proofs.gathering.place_for.Goals as goal

pub returns-clause-told : goal.returns-clause-told
returns-clause-told c = tell_empty c.new.result c.args.lists.now.items c.push.new.self.items c.new.ensures.none c.in_ok-push.ensures.items

pub returns-clause-place : goal.returns-clause-place
returns-clause-place c =
    let lists = c.args.lists.now.items in
    let count : c.len-at.result ≡ length lists = omega (arith, c.len-at.ensures) in (
      c.new.result,
      ap (λ xs. slice_get xs c.len-at.result) c.in_ok-push.ensures.items ∙ ap (λ n. slice_get (lists ++ c.new.result ∷ []) n) count ∙ get_next lists c.new.result,
      c.new.ensures.relation,
      c.new.ensures.columns ∙ c.in_ok-columns.ensures,
    )

pub returns-clause-indexes : goal.returns-clause-indexes
returns-clause-indexes c =
    let lists = c.args.lists.now.items in
    inr (
      ap indexes c.in_ok-push.ensures.items ∙ indexes_next lists c.new.result
          ∙ ap (λ n. indexes lists ++ (n, c.new.result.columns) ∷ []) c.new.ensures.relation
          ∙ ap (λ cs. indexes lists ++ (c.args.relation, cs) ∷ []) (c.new.ensures.columns ∙ c.in_ok-columns.ensures),
      c.in_default.ensures.none,
    )

pub returns-clause-few : goal.returns-clause-few
returns-clause-few c =
    let e = ap held_in c.in_ok-push.ensures.items ∙ held_next c.args.lists.now.items c.new.result in
    let f = c.new.ensures.few in
    omega (arith, e, f)
