use Rattle.std.proofs.Common.{◌≤◌, length}
use Rattle.std.specs.List.{AllByRecursion}
use Rattle.lt_model.specs.Limits.{IsStatementWithin}
use Rattle.lt_tables.proofs.loads.program_of.Given as goal

abbrev pub invariant-loop-step : goal.invariant-loop-step
invariant-loop-step l = AllByRecursion IsStatementWithin l.statements × (length l.statements ≤ l.step)
