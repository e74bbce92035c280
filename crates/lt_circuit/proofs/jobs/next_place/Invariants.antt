use Rattle.std.proofs.Common.{◌≢◌, ℕ, ◌<◌, ◌≤◌, get_or}
use Rattle.lt_net.specs.declared.job.JobState.TheVariants.{Clean, Pending}
use Rattle.lt_circuit.proofs.jobs.next_place.Given as goal

abbrev pub invariant-loop-place : goal.invariant-loop-place
invariant-loop-place l = (p : ℕ) → l.low ≤ p → p < l.place → get_or l.states (get_or l.order p 0) Clean ≢ Pending
