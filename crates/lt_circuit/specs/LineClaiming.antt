-- What a claim of a line's job may answer.
use Rattle.std.specs.Prelude.{◌≡◌, ◌≢◌, ℕ, ◌<◌, ◌^◌, List, [], ◌∷◌, ◌++◌, Some}
use Rattle.lt_model.specs.declared.mark.Mark.{Mark}
use Rattle.lt_net.specs.declared.job.JobState.TheVariants.{Pending}
use Rattle.lt_net.specs.Net.{IsSettled, claimed}
use Rattle.lt_net.specs.Line.{line_net}
use Rattle.lt_circuit.specs.declared.claim.Claim.{Claim}
use Rattle.lt_circuit.specs.declared.claim.Claim.TheVariants.{Job, Busy, Settled, NoMemory}
use Rattle.lt_circuit.specs.declared.claim.This.{This}
use Rattle.lt_circuit.specs.declared.claim.This.TheVariants.{Job as ThisJob, NotPending, NoMemory as NoMemoryForThis}
use Rattle.lt_circuit.specs.declared.entry.Event.TheVariants.{Claim as ClaimEvent}
use Rattle.lt_circuit.specs.Row.{sizes, standing_in}
use Rattle.lt_circuit.specs.Line.{LineView, line_state}
use Rattle.lt_circuit.specs.Job.{JobView, prior_of, tallies_left, task_name, task_prior}
use Rattle.lt_circuit.specs.LineJob.{claim_of_line_job}

-- a Pending job, which the worker now holds on the inputs that stand
pub record IsLineClaimed {W T : Type 0} (does : ℕ → List Mark → List Mark) (old new : LineView W T) (worker : ℕ) (job : JobView W T) : Type 0 where
  pub of_work : job.work ≡ old.work
  pub work : new.work ≡ old.work
  pub leaves : sizes new.row ≡ sizes old.row
  pub pending : (line_state old).status (claim_of_line_job job).job ≡ Pending
  pub stepped : line_state new ≡ claimed (line_net does (sizes old.row)) (line_state old) worker (claim_of_line_job job).job
  pub held : (line_state new).claim worker ≡ Some (claim_of_line_job job)
  pub others : (v : ℕ) → v ≢ worker → (line_state new).claim v ≡ (line_state old).claim v
  pub journal : new.journal ≡ old.journal ++ record { worker = worker; job = (claim_of_line_job job).job; event = ClaimEvent } ∷ []
  -- a leaf's tally, which its last finish stored, goes from its place to the job
  pub prior : task_prior job.task ≡ prior_of (task_name job.task) old.tallies
  pub tallies : new.tallies ≡ tallies_left (task_name job.task) old.tallies

abbrev pub IsLineAnswer : {W T : Type 0} → (ℕ → List Mark → List Mark) → LineView W T → LineView W T → ℕ → Claim (JobView W T) → Type 0
IsLineAnswer does old new worker (Job job) = IsLineClaimed does old new worker job
IsLineAnswer does old new worker (Busy n) = (new ≡ old) × ((j : ℕ) → (line_state old).status j ≢ Pending) × (n ≡ standing_in old.row) × (0 < n)
IsLineAnswer does old new worker Settled = (new ≡ old) × IsSettled (line_state old)
IsLineAnswer does old new worker NoMemory = new ≡ old

-- the code of a job that was given is a `u32`
abbrev pub IsLineCoded : {W T : Type 0} → Claim (JobView W T) → Type 0
IsLineCoded (Job job) = (claim_of_line_job job).job < 2 ^ 32
IsLineCoded (Busy n) = Unit {0}
IsLineCoded Settled = Unit {0}
IsLineCoded NoMemory = Unit {0}

abbrev pub IsLineThis : {W T : Type 0} → (ℕ → List Mark → List Mark) → LineView W T → LineView W T → (worker code : ℕ) → This (JobView W T) → Type 0
IsLineThis does old new worker code (ThisJob job) = IsLineClaimed does old new worker job × ((claim_of_line_job job).job ≡ code)
IsLineThis does old new worker code NotPending = (new ≡ old) × ((line_state old).status code ≢ Pending)
IsLineThis does old new worker code NoMemoryForThis = new ≡ old
