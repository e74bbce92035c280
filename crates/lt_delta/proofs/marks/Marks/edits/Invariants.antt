use Rattle.std.proofs.Common.{◌≡◌, true, false, take}
use Rattle.lt_delta.specs.Laying.{marked}
use Rattle.lt_delta.proofs.marks.Marks.edits.Given as goal

abbrev pub invariant-loop-i : goal.invariant-loop-i
invariant-loop-i l = record {
  gone : l.gone ≡ marked l.relation false (take l.i l.self);
  come : l.come ≡ marked l.relation true (take l.i l.self);
}
