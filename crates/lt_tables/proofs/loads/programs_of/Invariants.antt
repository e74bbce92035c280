use Rattle.std.proofs.Common.{◌≤◌, length}
use Rattle.std.specs.List.{AllByRecursion}
use Rattle.lt_model.specs.Limits.{IsProgramWithin}
use Rattle.lt_tables.proofs.loads.programs_of.Given as goal

abbrev pub invariant-loop-step : goal.invariant-loop-step
invariant-loop-step l = AllByRecursion IsProgramWithin l.programs × (length l.programs ≤ l.step)
