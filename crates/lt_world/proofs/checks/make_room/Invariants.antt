use Rattle.std.specs.List.{AllByRecursion}
use Rattle.lt_model.specs.Schema.{Schema}
use Rattle.lt_world.specs.Prepared.{IsKnown}
use Rattle.lt_world.proofs.checks.make_room.Given as goal

-- what is known of all stays so
abbrev pub invariant-loop : goal.invariant-loop
invariant-loop l = (schema : Schema) → AllByRecursion (IsKnown schema) l.fn.forms.items → AllByRecursion (IsKnown schema) l.forms.items
