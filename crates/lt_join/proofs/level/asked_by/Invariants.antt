use Rattle.std.proofs.Common.{take}
use Rattle.lt_join.specs.Lone.{IsLeftBy}
use Rattle.lt_join.proofs.level.asked_by.Given as goal

abbrev pub invariant-loop-pin : goal.invariant-loop-pin
invariant-loop-pin l = IsLeftBy (take l.pin-index l.pins) l.asked
