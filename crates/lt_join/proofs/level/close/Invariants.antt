use Rattle.std.proofs.Common.{List, drop}
use Rattle.lt_join.specs.AtomIter.{AtomView}
use Rattle.lt_join.specs.Level.{AreOpened}
use Rattle.lt_join.proofs.level.close.Given as goal

-- those at the places to come are opened still
abbrev pub invariant-loop-place : goal.invariant-loop-place
invariant-loop-place g l = (above : List AtomView) → AreOpened l.places above l.fn.iters → AreOpened (drop l.place-index l.places) above l.iters
