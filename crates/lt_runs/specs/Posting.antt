-- Batches that are to be run, and the versions that are to be posted of them.
use Rattle.std.specs.Prelude.{◌≡◌, ◌≤◌, ◌+◌, ◌++◌, ℕ, List, length, Some, slice_get}
use Rattle.std.specs.List.{AllByRecursion}
use Rattle.lt_face.specs.Limits.{most_workers}
use Rattle.lt_model.specs.declared.syntax.Item.{Item}
use Rattle.lt_model.specs.Limits.{IsWithinLimits}
use Rattle.lt_readers.specs.declared.version.Version.{Version}
use Rattle.lt_runs.specs.declared.come.Come.{Come}
use Rattle.lt_runs.specs.Coming.{HasRun, IsBatch}
use Rattle.lt_runs.specs.Reading.{IsPosted}
use Rattle.lt_world.specs.World.{Shows}

-- some items were run, these batches come next, and there is room for their versions
pub record IsToPost (come : Come) (batches : List Item) (workers : ℕ) (log : List Version) : Type 0 where
  pub some : 1 ≤ workers
  pub many : workers ≤ most_workers
  pub within : AllByRecursion IsWithinLimits batches
  pub are : AllByRecursion IsBatch batches
  pub front : List Item
  pub run : HasRun Shows front come.world come.summary
  pub few : length front + length batches ≤ 1027
  pub most : ℕ
  pub posted : IsPosted most come.world.versions log
  pub room : length log + length batches ≤ most

-- the batches were run, and their versions were posted
pub record HasPosted (come : Come) (batches : List Item) (log later : List Version) (after : Come) : Type 0 where
  pub run : (front : List Item) → HasRun Shows front come.world come.summary → HasRun Shows (front ++ batches) after.world after.summary
  pub programs : after.summary.programs ≡ come.summary.programs
  pub posted : (most : ℕ) → IsPosted most come.world.versions log → IsPosted most after.world.versions later
  pub first : (v : Version) → slice_get log 0 ≡ Some v → slice_get later 0 ≡ Some v
  pub longer : length later ≡ length log + length batches
