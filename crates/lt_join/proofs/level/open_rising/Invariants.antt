use Rattle.std.proofs.Common.{take}
use Rattle.lt_join.proofs.Rising.{HasRisen}
use Rattle.lt_join.proofs.level.open_rising.Given as goal

abbrev pub invariant-loop-i : goal.invariant-loop-i
invariant-loop-i g l = HasRisen l.way.plan l.way.state l.keys (take l.i l.places) l.fn.iters l.iters l.fn.from l.key l.fn.sense l.sense l.fn.moves l.moves
