use Rattle.std.proofs.Common.{◌≡◌, ◌+◌, take}
use Rattle.std.specs.List.{AllByRecursion}
use Rattle.lt_sense.specs.Sense.{IsTight}
use Rattle.lt_join.specs.Certify.{IsGapped}
use Rattle.lt_join.specs.Cost.{GainsFewer}
use Rattle.lt_join.specs.Values.{values_in, assigned}
use Rattle.lt_join.specs.Walked.{Grows}
use Rattle.lt_join.proofs.looking_up.lacks_each.Given as goal

abbrev pub invariant-loop-i : goal.invariant-loop-i
invariant-loop-i g l = record {
  grows : Grows l.fn.sense l.sense;
  tight : IsTight l.sense (g.I.Indexes.state l.tables);
  gapped : AllByRecursion (IsGapped l.sense (assigned (values_in l.values.cells))) (take l.i l.absents);
  gains : GainsFewer l.fn.sense l.sense l.fn.moves l.moves;
  made : l.moves ≡ l.fn.moves + l.i;
}
