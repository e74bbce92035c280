use Rattle.std.proofs.Common.{map}
use Rattle.std.specs.Arc.{arc_value}
use Rattle.lt_model.specs.Marks.{AreMarks}
use Rattle.lt_model.proofs.Composition.{AreMarks-and_then}
use Rattle.lt_delta.proofs.marks.Marks.add.Goals as goal

pub invariant_of-self-in-Some : goal.invariant_of-self-in-Some
invariant_of-self-in-Some c =
    let up : AreMarks (map arc_value c.in-Some.list.now.items) = rw c.in-Some.ensures.value c.self.invariant in
    rw c.in_ok-put_all-in-Some.ensures.ok (AreMarks-and_then (map arc_value c.in-Some.list.now.items) (map arc_value c.deref-in-Some.result.now) up)
