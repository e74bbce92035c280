use Rattle.lt_model.proofs.Composition.{AreMarks-and_then}
use Rattle.lt_delta.proofs.marks.Marks.from_list.Goals as goal

pub invariant_of-result : goal.invariant_of-result
invariant_of-result c = rw (c.in_ok-list.ensures.ok, c.in_ok-marks-2.ensures, c.in_ok-marks.ensures) (AreMarks-and_then _ c.into_vec.result.items tt)
