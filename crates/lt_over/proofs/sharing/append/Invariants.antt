use Rattle.std.proofs.Common.{◌≡◌, ◌++◌, map, take}
use Rattle.std.specs.Arc.{arc_value}
use Rattle.lt_over.proofs.sharing.append.Given as goal

abbrev pub invariant-loop-one : goal.invariant-loop-one
invariant-loop-one g l = map arc_value l.list.items ≡ map arc_value l.fn.list.items ++ map arc_value (take l.one-index l.more)
