use Rattle.std.proofs.Common.{◌≡◌, map, length}
use Rattle.std.specs.Arc.{arc_value}
use Rattle.std.specs.List.{AllByRecursion}
use Rattle.lt_run_trials.specs.Fitting.{FitsBoth}
use Rattle.lt_run_trials.proofs.texts.programs_over.Given as goal

abbrev pub invariant-loop-i : goal.invariant-loop-i
invariant-loop-i l = record { many : length l.progs.items ≡ l.i; fit : AllByRecursion FitsBoth (map arc_value l.progs.items) }
