use Rattle.std.specs.Prelude.{take}
use Rattle.lt_batch.proofs.Following.{IsOnWay}
use Rattle.lt_batch.proofs.entries.go_through.Given as goal

abbrev pub invariant-loop-i : goal.invariant-loop-i
invariant-loop-i g l = IsOnWay g.W.LeafWork.does l.fn.circuit l.circuit l.hands.items (take l.i l.entries)
