use Rattle.std.proofs.Common.{◌≢◌, ℕ, ◌<◌}
use Rattle.lt_net.specs.declared.job.JobState.TheVariants.{Pending}
use Rattle.lt_circuit.specs.Row.{parts}
use Rattle.lt_circuit.proofs.row.look.first_busy.Given as goal

abbrev pub invariant-loop-s : goal.invariant-loop-s
invariant-loop-s l = (r : ℕ) → r < l.s → (place : ℕ) → (parts l.segments r).status place ≢ Pending
