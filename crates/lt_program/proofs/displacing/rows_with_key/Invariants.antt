use Rattle.std.proofs.Common.{◌≡◌, ◌+◌, ◌-◌, length}
use Rattle.std.specs.Option.{option_copied}
use Rattle.lt_program.specs.Displacing.{with_key}
use Rattle.lt_program.proofs.KeyWalk.{IsWalkedTo}
use Rattle.lt_program.proofs.displacing.rows_with_key.Given as goal

abbrev pub invariant-loop-next : goal.invariant-loop-next
invariant-loop-next g l = record {
  walk : IsWalkedTo l.keys l.row (g.R.RowReads.rows l.rows) l.alike (option_copied l.next);
  count : l.moves ≡ l.fn.moves + (1 + length l.alike);
}

abbrev pub decreases-loop-next : goal.decreases-loop-next
decreases-loop-next g l = length (with_key l.keys l.row (g.R.RowReads.rows l.rows)) - length l.alike
