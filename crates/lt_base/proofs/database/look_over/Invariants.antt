use Rattle.std.proofs.Common.{take, map}
use Rattle.std.specs.Arc.{arc_value}
use Rattle.std.specs.List.{AllByRecursion}
use Rattle.lt_base.specs.Tables.{IsTable}
use Rattle.lt_base.proofs.database.look_over.Given as goal

abbrev pub invariant-loop-relation : goal.invariant-loop-relation
invariant-loop-relation l = AllByRecursion IsTable (map arc_value (take l.relation-index l.relations.items))
