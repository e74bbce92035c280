-- The jobs that the workers of a circuit hold, and what an entry does.
use Rattle.std.specs.Prelude.{◌≡◌, ◌<◌, ℕ, Bool, true, false, List, [], ◌∷◌, ◌++◌, Option, Some, None, map, length, slice_index_or}
use Rattle.lt_face.specs.Limits.{most_workers}
use Rattle.lt_model.specs.declared.mark.Mark.{Mark}
use Rattle.lt_net.specs.Net.{step}
use Rattle.lt_net.specs.declared.job.JobName.{JobName}
use Rattle.lt_circuit.specs.Circuit.{CircuitView, state}
use Rattle.lt_circuit.specs.Hands.{IsInHand}
use Rattle.lt_circuit.specs.Job.{JobView, name_of_job}
use Rattle.lt_circuit.specs.Shape.{shape, shape_net}
use Rattle.lt_batch.specs.Replaying.{IsIllegal, told, written_of}
use Rattle.lt_batch.specs.declared.replaying.Written.{Written}

-- it is the job of this name
abbrev pub IsJob : {W T : Type 0} → JobName → Option (JobView W T) → Type 0
IsJob name None = ⊥
IsJob name (Some job) = name_of_job job ≡ name

-- each worker holds what stands at its place
pub record AreHeld {W T : Type 0} (c : CircuitView W T) (hands : List (Option (JobView W T))) : Type 0 where
  pub long : length hands ≡ most_workers
  pub each : (w : ℕ) → w < most_workers → IsInHand c w (slice_index_or hands w None)

-- the entry is legal and done, and written down
pub record IsDone {W T : Type 0} (does : W → ℕ → List Mark → List Mark) (old new : CircuitView W T) (hands : List (Option (JobView W T))) (entry : Written) : Type 0 where
  pub worker : entry.worker < most_workers
  pub legal : step (shape_net (shape does old)) (state old) (told entry) ≡ Some (state new)
  pub same : shape does new ≡ shape does old
  pub journal : map written_of new.journal ≡ map written_of old.journal ++ entry ∷ []
  pub held : AreHeld new hands

-- what it means that an entry is legal, or isn't
abbrev pub IsGone : {W T : Type 0} → (W → ℕ → List Mark → List Mark) → CircuitView W T → CircuitView W T → List (Option (JobView W T)) → Written → Bool → Type 0
IsGone does old new hands entry true = IsDone does old new hands entry
IsGone does old new hands entry false = IsIllegal (shape_net (shape does old)) (state old) entry
