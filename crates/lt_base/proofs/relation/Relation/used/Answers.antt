use Rattle.std.proofs.Common.{◌≡◌, map, length, ap, ◌∙◌, subst, sym, arith}
use Rattle.std.specs.List.{AllByRecursion}
use Rattle.lt_base.specs.declared.index.Index.{Index}
use Rattle.lt_base.specs.Indexed.{IsIndexed}
use Rattle.lt_base.proofs.Used.{written_back, as_many}
use Rattle.lt_base.proofs.relation.Relation.used.Goals as goal

pub invariant_of-relation : goal.invariant_of-relation
invariant_of-relation c =
    let old = c.relation.inside.others.items in
    let new = c.note_use.new.others in
    let many : length new ≡ length old = as_many (λ (i : Index). i.columns) new old (c.note_use.ensures.columns ∙ ap (map (λ (i : Index). i.columns)) c.as_mut_slice.ensures.value) in
    let width = c.relation.inside.first.width in
    let rows = c.relation.inside.first.rows in
    let all = c.note_use.ensures.same width rows (rw c.as_mut_slice.ensures.value c.relation.invariant.1) in
    (c.relation.invariant.0, subst (AllByRecursion (IsIndexed width rows)) (sym (written_back c.relation.inside.others.len new old many (omega (arith, c.as_mut_slice.ensures.len)))) all)
