use Rattle.std.proofs.Common.{◌≡◌, take}
use Rattle.lt_base.specs.Tables.{state_of}
use Rattle.lt_dump.proofs.comparing.is_same_state.Given as goal

abbrev pub invariant-relations : goal.invariant-relations
invariant-relations l = take l.number (state_of l.one) ≡ take l.number (state_of l.other)
