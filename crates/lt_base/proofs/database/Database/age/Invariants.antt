use Rattle.std.proofs.Common.{◌≡◌, map}
use Rattle.std.specs.Arc.{arc_value}
use Rattle.lt_base.specs.Tables.{state_of}
use Rattle.lt_base.proofs.database.Database.age.Given as goal

abbrev pub invariant-loop-i : goal.invariant-loop-i
invariant-loop-i l = state_of (map arc_value l.self-inside.relations.items) ≡ state_of l.fn.self
