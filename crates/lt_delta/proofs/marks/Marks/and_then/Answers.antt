use Rattle.std.proofs.Common.{◌≡◌, map, refl, sym, ◌∙◌, subst}
use Rattle.std.specs.Arc.{arc_value}
use Rattle.lt_model.specs.Marks.{AreMarks, and_then}
use Rattle.lt_model.proofs.Composition.{AreMarks-and_then}
use Rattle.lt_delta.proofs.Merges.{after_empty}
use Rattle.lt_delta.proofs.marks.Marks.and_then.Goals as goal

pub invariant_of-result : goal.invariant_of-result
invariant_of-result c =
    let both = and_then c.args.first.now c.args.second.now in
    let same : map arc_value (arc_value c.in_ok-list.list).items ≡ both = rw (c.in_ok-list.ensures.ok, c.in_ok-marks.ensures, c.deref-2.ensures.value, c.deref.ensures, c.deref-4.ensures.value, c.deref-3.ensures, c.first.view_is, c.second.view_is) refl in
    subst AreMarks (sym same) (AreMarks-and_then c.args.first.now c.args.second.now c.len-2.ensures.ascending)

pub returns-then-len-eq0-2 : goal.returns-then-len-eq0-2
returns-then-len-eq0-2 c =
    rw (after_empty c.args.first.now c.args.second.now (sym c.len-2.ensures.count ∙ c.if-len-eq0-2.true) c.len.ensures.ascending) c.share-then-len-eq0-2.ensures
