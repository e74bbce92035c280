use Rattle.std.proofs.Common.{map}
use Rattle.std.specs.Arc.{arc_value}
use Rattle.std.specs.List.{AllByRecursion}
use Rattle.lt_base.specs.Tables.{state_of}
use Rattle.lt_batch.specs.Folding.{IsInPlace}
use Rattle.lt_batch.proofs.ahead.take_tasks.Given as goal

abbrev pub invariant-loop-turns : goal.invariant-loop-turns
invariant-loop-turns l = AllByRecursion (IsInPlace (map arc_value l.progs) (state_of l.db)) l.all.items
