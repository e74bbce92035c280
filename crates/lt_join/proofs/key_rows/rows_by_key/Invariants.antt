use Rattle.std.proofs.Common.{◌≡◌, take}
use Rattle.lt_join.specs.Slices.{rows_in}
use Rattle.lt_join.proofs.key_rows.rows_by_key.Given as goal

abbrev pub invariant-loop-one : goal.invariant-loop-one
invariant-loop-one l = l.rows.items ≡ rows_in (take l.one-index l.all)
