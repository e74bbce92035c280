-- What workers have in hand of a line's jobs.
use Rattle.std.specs.Prelude.{◌≡◌, ℕ, Option, Some, None}
use Rattle.lt_circuit.specs.Line.{LineView, line_state}
use Rattle.lt_circuit.specs.Job.{JobView}
use Rattle.lt_circuit.specs.LineJob.{claim_of_line_job}

-- the worker holds this job of the line, or none
abbrev pub IsInHand : {W T : Type 0} → LineView W T → ℕ → Option (JobView W T) → Type 0
IsInHand l worker None = (line_state l).claim worker ≡ None
IsInHand l worker (Some job) = (job.work ≡ l.work) × ((line_state l).claim worker ≡ Some (claim_of_line_job job))
