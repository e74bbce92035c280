-- What a source and a sink in memory are seen as.
use Rattle.std.specs.Prelude.{ℕ, List, []}

-- the bytes still to come, and the most that a read gives of them; the calls that fail, by their numbers from 1 on; how
-- many calls and faults there were
pub record Input : Type 0 where
  pub left : List ℕ
  pub step : ℕ
  pub failing : List ℕ
  pub calls : ℕ
  pub faults : ℕ

-- the bytes taken, and how many more there is room for; calls and faults as for a source
pub record Output : Type 0 where
  pub holds : List ℕ
  pub room : ℕ
  pub failing : List ℕ
  pub calls : ℕ
  pub faults : ℕ

-- before the first call
abbrev pub fresh_input : List ℕ → ℕ → List ℕ → Input
fresh_input bytes step failing = record { left = bytes; step = step; failing = failing; calls = 0; faults = 0 }

abbrev pub fresh_output : ℕ → List ℕ → Output
fresh_output room failing = record { holds = []; room = room; failing = failing; calls = 0; faults = 0 }
