use Rattle.std.proofs.Common.{◌≡◌, ◌||◌, false, sym, ap, ◌∙◌, arith}
use Rattle.std.proofs.lemmas.Option.{slice_get_within}
use Rattle.lt_sense.specs.declared.spans.Spans.{Spans}
use Rattle.lt_sense.specs.Sense.{gap_covers}
use Rattle.lt_sense.specs.Spans.{have, ranges_of, under}
use Rattle.lt_sense.specs.Gathered.{ranges_in}
use Rattle.lt_sense.proofs.Added.{set_there}
use Rattle.lt_sense.proofs.Costs.{held_set, indexes_set}
use Rattle.lt_sense.proofs.Lies.{get_there}
use Rattle.lt_sense.proofs.Said.{have_set}
use Rattle.lt_sense.proofs.Sorted.{some_is}
use Rattle.lt_sense.proofs.Spanned.{range_in, or_none}
use Rattle.lt_sense.proofs.Stepped.{ok_map, err_map}
use Rattle.lt_sense.proofs.gathering.add_at.Goals as goal

pub returns-clause-added : goal.returns-clause-added
returns-clause-added c =
    let lists = c.args.lists.now.items in
    let s = c.index_mut.result.now in
    let place = c.requires.place in
    let lt = slice_get_within lists c.args.at place.0 place.1 in
    let same : s ≡ place.0 = some_is s place.0 (sym (get_there lists c.args.at s lt c.index_mut.ensures.value) ∙ place.1) in
    let is : under s c.args.prefix.now c.args.lo c.args.hi ≡ range_in c.args.relation c.args.perm.now c.args.prefix.now c.args.lo c.args.hi =
    ap (λ n. range_in n s.columns c.args.prefix.now c.args.lo c.args.hi) (ap (λ (y : Spans). y.relation) same ∙ place.2)
    ∙ ap (λ cs. range_in c.args.relation cs c.args.prefix.now c.args.lo c.args.hi) (ap (λ (y : Spans). y.columns) same ∙ place.3) in
    ok_map c.add.result (λ also relation row below.
    have_set lists c.args.at s c.add.new.self (gap_covers (range_in c.args.relation c.args.perm.now c.args.prefix.now c.args.lo c.args.hi) relation row) relation row lt c.index_mut.ensures.value
    (also relation row below ∙ ap (λ range. have (ranges_of s) relation row || gap_covers range relation row) is)) c.add.ensures.added

pub returns-clause-err : goal.returns-clause-err
returns-clause-err c =
    let lists = c.args.lists.now.items in
    let s = c.index_mut.result.now in
    let place = c.requires.place in
    let lt = slice_get_within lists c.args.at place.0 place.1 in
    err_map c.add.result (λ rows relation row below.
    have_set lists c.args.at s c.add.new.self false relation row lt c.index_mut.ensures.value (rows relation row below ∙ sym (or_none (have (ranges_of s) relation row)))
    ∙ or_none (have (ranges_in lists) relation row)) c.add.ensures.err

pub returns-clause-place : goal.returns-clause-place
returns-clause-place c =
    let lists = c.args.lists.now.items in
    let s = c.index_mut.result.now in
    let place = c.requires.place in
    let lt = slice_get_within lists c.args.at place.0 place.1 in
    let same : s ≡ place.0 = some_is s place.0 (sym (get_there lists c.args.at s lt c.index_mut.ensures.value) ∙ place.1) in (
      c.add.new.self,
      set_there lists c.args.at c.add.new.self lt,
      c.add.ensures.same.relation ∙ ap (λ (y : Spans). y.relation) same ∙ place.2,
      c.add.ensures.same.columns ∙ ap (λ (y : Spans). y.columns) same ∙ place.3,
    )

pub returns-clause-indexes : goal.returns-clause-indexes
returns-clause-indexes c =
    let lists = c.args.lists.now.items in
    let s = c.index_mut.result.now in
    let t = c.add.new.self in
    let lt = slice_get_within lists c.args.at c.requires.place.0 c.requires.place.1 in
    indexes_set lists c.args.at s t lt c.index_mut.ensures.value (ap (λ n. (n, t.columns)) c.add.ensures.same.relation ∙ ap (λ cs. (s.relation, cs)) c.add.ensures.same.columns)

pub returns-clause-few : goal.returns-clause-few
returns-clause-few c =
    let lists = c.args.lists.now.items in
    let lt = slice_get_within lists c.args.at c.requires.place.0 c.requires.place.1 in
    ok_map c.add.result (λ e. held_set lists c.args.at c.index_mut.result.now c.add.new.self 1 lt c.index_mut.ensures.value e) c.add.ensures.few

pub returns-clause-left : goal.returns-clause-left
returns-clause-left c =
    let lists = c.args.lists.now.items in
    let lt = slice_get_within lists c.args.at c.requires.place.0 c.requires.place.1 in
    err_map c.add.result (λ e. let f = held_set lists c.args.at c.index_mut.result.now c.add.new.self 0 lt c.index_mut.ensures.value (omega (arith, e)) in omega (arith, f)) c.add.ensures.left
