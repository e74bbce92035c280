use Rattle.lt_restate.proofs.Covering.{Marked}
use Rattle.lt_run_trials.proofs.restatement.add_named.Given as goal

abbrev pub invariant-loop-i : goal.invariant-loop-i
invariant-loop-i l = Marked (λ _. Unit {0}) l.marks l.i l.fn.named l.named
