-- What a claim may answer.
use Rattle.std.specs.Prelude.{◌≡◌, ◌≢◌, ℕ, ◌<◌, ◌^◌, List, [], ◌∷◌, ◌++◌, Some}
use Rattle.lt_model.specs.declared.mark.Mark.{Mark}
use Rattle.lt_net.specs.declared.job.JobState.TheVariants.{Pending}
use Rattle.lt_circuit.specs.Board.{standing}
use Rattle.lt_net.specs.Net.{IsSettled, claimed}
use Rattle.lt_net.specs.Codes.{IsOfTree}
use Rattle.lt_net.specs.Tree.{circuit_net, tree_of}
use Rattle.lt_circuit.specs.declared.claim.Claim.{Claim}
use Rattle.lt_circuit.specs.declared.claim.Claim.TheVariants.{Job, Busy, Settled, NoMemory}
use Rattle.lt_circuit.specs.declared.claim.This.{This}
use Rattle.lt_circuit.specs.declared.claim.This.TheVariants.{Job as ThisJob, NotPending, NoMemory as NoMemoryForThis}
use Rattle.lt_circuit.specs.Circuit.{CircuitView, state}
use Rattle.lt_circuit.specs.declared.entry.Event.TheVariants.{Claim as ClaimEvent}
use Rattle.lt_circuit.specs.Job.{JobView, claim_of_job, name_of_job, prior_of, task_prior, tallies_left}

-- a Pending job, which the worker now holds on the inputs that stand
pub record IsClaimed {W T : Type 0} (does : ℕ → List Mark → List Mark) (old new : CircuitView W T) (worker : ℕ) (job : JobView W T) : Type 0 where
  pub of_work : job.work ≡ old.work
  pub of_tree : IsOfTree (name_of_job job)
  pub work : new.work ≡ old.work
  pub leaves : new.board.leaves ≡ old.board.leaves
  pub pending : (state old).status (claim_of_job job).job ≡ Pending
  pub stepped : state new ≡ claimed (circuit_net does (tree_of old.board.leaves)) (state old) worker (claim_of_job job).job
  pub held : (state new).claim worker ≡ Some (claim_of_job job)
  pub others : (v : ℕ) → v ≢ worker → (state new).claim v ≡ (state old).claim v
  pub journal : new.journal ≡ old.journal ++ record { worker = worker; job = name_of_job job; event = ClaimEvent } ∷ []
  -- a leaf's tally, which its last finish stored, goes from its place to the job
  pub prior : task_prior job.task ≡ prior_of (name_of_job job) old.tallies
  pub tallies : new.tallies ≡ tallies_left (name_of_job job) old.tallies

abbrev pub IsAnswer : {W T : Type 0} → (ℕ → List Mark → List Mark) → CircuitView W T → CircuitView W T → ℕ → Claim (JobView W T) → Type 0
IsAnswer does old new worker (Job job) = IsClaimed does old new worker job
IsAnswer does old new worker (Busy n) = (new ≡ old) × ((j : ℕ) → (state old).status j ≢ Pending) × (n ≡ standing old.board.claims) × (0 < n)
IsAnswer does old new worker Settled = (new ≡ old) × IsSettled (state old)
IsAnswer does old new worker NoMemory = new ≡ old

-- the code of a job that was given is a `u32`
abbrev pub IsCoded : {W T : Type 0} → Claim (JobView W T) → Type 0
IsCoded (Job job) = (claim_of_job job).job < 2 ^ 32
IsCoded (Busy n) = Unit {0}
IsCoded Settled = Unit {0}
IsCoded NoMemory = Unit {0}

abbrev pub IsThis : {W T : Type 0} → (ℕ → List Mark → List Mark) → CircuitView W T → CircuitView W T → (worker code : ℕ) → This (JobView W T) → Type 0
IsThis does old new worker code (ThisJob job) = IsClaimed does old new worker job × ((claim_of_job job).job ≡ code)
IsThis does old new worker code NotPending = (new ≡ old) × ((state old).status code ≢ Pending)
IsThis does old new worker code NoMemoryForThis = new ≡ old
