use Rattle.std.proofs.Common.{◌≡◌, length}
use Rattle.lt_delta.specs.Columns.{numbers}
use Rattle.lt_base.proofs.columns.own_columns.Given as goal

abbrev pub invariant-loop-i : goal.invariant-loop-i
invariant-loop-i l = record {
  long : length l.columns ≡ l.i;
  is : l.columns ≡ numbers 0 l.i;
}
