-- What workers have in hand: the words of the tests' own helper.
use Rattle.std.specs.Prelude.{◌≡◌, ℕ, ◌<◌, Option, Some, None}
use Rattle.lt_circuit.specs.Circuit.{CircuitView, state}
use Rattle.lt_net.specs.Codes.{IsOfTree}
use Rattle.lt_circuit.specs.Job.{JobView, claim_of_job, name_of_job}

-- the worker holds this job of the circuit, or none
abbrev pub IsInHand : {W T : Type 0} → CircuitView W T → ℕ → Option (JobView W T) → Type 0
IsInHand c worker None = (state c).claim worker ≡ None
IsInHand c worker (Some job) = (job.work ≡ c.work) × ((state c).claim worker ≡ Some (claim_of_job job)) × IsOfTree (name_of_job job)

-- workers 0 and 1 hold these, and no other worker holds a job
pub record AreInHand {W T : Type 0} (c : CircuitView W T) (first second : Option (JobView W T)) : Type 0 where
  pub of_first : IsInHand c 0 first
  pub of_second : IsInHand c 1 second
  pub others : (v : ℕ) → 1 < v → (state c).claim v ≡ None
