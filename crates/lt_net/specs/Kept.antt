-- What every event of a net keeps.
use Rattle.std.specs.Prelude.{◌≡◌, ℕ, true, false, [], Some}
use Rattle.lt_net.specs.declared.job.JobState.TheVariants.{Clean, Running}
use Rattle.lt_net.specs.Net.{Cell, Net, State, Claim, has_cell, read, first_of, is_held}

-- the job's outputs are its function of the inputs that stand now
pub record IsDone (net : Net) (s : State) (j : ℕ) : Type 0 where
  pub gave : (x : Cell) → has_cell x (net.outputs j) ≡ true → s.value x ≡ net.gives j (read s.value (net.inputs j)) x
  pub last : net.is_leaf j ≡ true → s.done j ≡ Some (first_of (read s.value (net.inputs j)))

pub record IsKept (net : Net) (s : State) : Type 0 where
  -- a Clean job is done; a Pending or Dirty one owes nothing
  pub clean : (j : ℕ) → s.status j ≡ Clean → IsDone net s j
  -- a Running job's captured inputs stand now
  pub current : (w : ℕ) (c : Claim) → s.claim w ≡ Some c → s.status c.job ≡ Running → c.inputs ≡ read s.value (net.inputs c.job)
  -- a leaf's claim captured the tally that stands
  pub captured : (w : ℕ) (c : Claim) → s.claim w ≡ Some c → c.prior ≡ s.done c.job
  -- each claim is of a Running or Dirty job, each such job has one worker's claim
  pub held : (w : ℕ) (c : Claim) → s.claim w ≡ Some c → is_held (s.status c.job) ≡ true
  pub single : (v w : ℕ) (b c : Claim) → s.claim v ≡ Some b → s.claim w ≡ Some c → b.job ≡ c.job → v ≡ w
  pub holder : (j : ℕ) → is_held (s.status j) ≡ true → (w : ℕ) × (c : Claim) × (s.claim w ≡ Some c) × (c.job ≡ j)
  -- a job without inputs, as a code that is no job, is Clean
  pub idle : (j : ℕ) → net.inputs j ≡ [] → s.status j ≡ Clean

-- what no job gives stays empty
abbrev pub IsBare : Net → State → Type 0
IsBare net s = (x : Cell) → ((j : ℕ) → has_cell x (net.outputs j) ≡ false) → s.value x ≡ []
