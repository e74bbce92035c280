use Rattle.lt_run_trials.specs.Fitting.{AreRowsOfBoth}
use Rattle.lt_run_trials.proofs.serial.runs_on.Given as goal

abbrev pub invariant-loop-prog : goal.invariant-loop-prog
invariant-loop-prog l = AreRowsOfBoth l.relations.items
