use Rattle.std.proofs.Common.{◌≡◌, true, false, map, take}
use Rattle.lt_face.specs.State.{permuted}
use Rattle.lt_delta.specs.Laying.{marked}
use Rattle.lt_delta.proofs.marks.Marks.edits_by.Given as goal

abbrev pub invariant-loop-i : goal.invariant-loop-i
invariant-loop-i l = record {
  gone : l.gone ≡ map (permuted l.columns) (marked l.relation false (take l.i l.self));
  come : l.come ≡ map (permuted l.columns) (marked l.relation true (take l.i l.self));
}
