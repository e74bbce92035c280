use Rattle.std.proofs.Common.{take}
use Rattle.lt_sense.specs.ByKeyTold.{RestBut}
use Rattle.lt_sense.proofs.by_key_cut.rest_without.Given as goal

abbrev pub invariant-loop-i : goal.invariant-loop-i
invariant-loop-i l = RestBut l.keys (take l.i l.rest.items) l.left.items
