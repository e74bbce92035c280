-- The states of the jobs, with an order of all codes.
use Rattle.std.specs.Prelude.{◌≡◌, ℕ, ◌<◌, ◌≤◌, List, length, slice_index_or}
use Rattle.lt_face.specs.Limits.{most_programs}
use Rattle.lt_net.specs.Codes.{codes_over}
use Rattle.lt_net.specs.declared.job.JobState.{JobState}
use Rattle.lt_net.specs.declared.job.JobState.TheVariants.{Clean, Pending}

-- the code stands in the order at its place
pub record IsPlaced (order places : List ℕ) (code : ℕ) : Type 0 where
  pub within : slice_index_or places code 0 < length order
  pub there : slice_index_or order (slice_index_or places code 0) 0 ≡ code

-- so does each of the first codes
abbrev pub ArePlaced : (order places : List ℕ) → ℕ → Type 0
ArePlaced order places codes = (code : ℕ) → code < codes → IsPlaced order places code

-- no Pending job stands before the place `low`
pub record AreJobs (states : List JobState) (order places : List ℕ) (low : ℕ) : Type 0 where
  pub few : length states ≤ codes_over most_programs
  pub places_long : length places ≡ length states
  pub placed : ArePlaced order places (length states)
  pub within : low ≤ length order
  pub above : (code : ℕ) → slice_index_or states code Clean ≡ Pending → low ≤ slice_index_or places code 0
