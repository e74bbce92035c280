-- Boards that begin with the two relations of the tests.
use Rattle.std.specs.Prelude.{◌≡◌, ◌<◌, List, [], ◌∷◌, Some, slice_get}
use Rattle.lt_base.specs.Tables.{state_of}
use Rattle.lt_readers.specs.declared.version.Version.{Version}
use Rattle.lt_run_trials.specs.Fitting.{AreBoth}

-- the first version has both
pub record BeginsWithBoth (log : List Version) : Type 0 where
  pub first : Version
  pub begins : slice_get log 0 ≡ Some first
  pub both : AreBoth (state_of first.db)

-- one version was posted, which has both, and another may come
pub record IsOpening (log : List Version) : Type 0 where
  pub only : Version
  pub is : log ≡ only ∷ []
  pub room : only.number < only.most
  pub both : AreBoth (state_of only.db)
