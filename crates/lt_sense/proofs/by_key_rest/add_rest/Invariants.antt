use Rattle.std.proofs.Common.{take}
use Rattle.lt_sense.specs.ByKeyTold.{RestAll}
use Rattle.lt_sense.proofs.by_key_rest.add_rest.Given as goal

abbrev pub invariant-loop-i : goal.invariant-loop-i
invariant-loop-i l = RestAll l.fn.rest.items l.rest.items (take l.i l.others.items)
