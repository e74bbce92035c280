-- What is so while a program is restated.
use Rattle.std.specs.Prelude.{◌≡◌, ℕ, ◌<◌, ◌≤◌, ◌⊎◌, Bool, true, List, length, is_some}
use Rattle.std.specs.List.{list_any}
use Rattle.lt_face.specs.Limits.{most_statements}
use Rattle.lt_face.specs.State.{Row}
use Rattle.lt_model.specs.declared.mark.Mark.{Mark}
use Rattle.lt_model.specs.Fits.{FitMarks}
use Rattle.lt_model.specs.Laws.{mark_on}
use Rattle.lt_model.specs.Marks.{Marks}
use Rattle.lt_base.specs.Tables.{state_of}
use Rattle.lt_base.specs.Changed.{differ_on}
use Rattle.lt_program.specs.Tally.{TallyView, IsRun, run_of_first}
use Rattle.lt_restate.specs.declared.walk.Walk.{Walk}
use Rattle.lt_restate.specs.Bases.{AreAlike}
use Rattle.lt_restate.specs.Touches.{AreTouches}

-- a mark on the row, to name it
abbrev pub mark_of : ℕ × Row → Mark
mark_of change = record { relation = change.0; row = change.1; plus = true }

-- whether a mark is on the row
abbrev pub is_named : Marks → ℕ → Row → Bool
is_named marks relation row = is_some (mark_on marks relation row)

-- whether one of the lists has a mark on the row
abbrev pub is_among : List Marks → ℕ → Row → Bool
is_among lists relation row = list_any (λ marks. is_named marks relation row) lists

-- The rows on which the bases differ are marked in one of two lists.
pub record IsUnderWay (old new : TallyView) (old_on new_on : Marks) (walk : Walk) : Type 0 where
  pub program : new.program ≡ old.program
  pub old_run : IsRun old
  pub run : IsRun new
  pub few : length old.program ≤ most_statements
  pub past : length new.parts < length old.parts → walk.past ≡ (run_of_first (length new.parts) old.program (state_of old.base)).1
  pub past_fits : FitMarks (state_of old.base) walk.past
  pub alike : AreAlike (state_of old.base) (state_of new.base)
  pub bases : (relation : ℕ) (row : Row) → differ_on (state_of old.base) (state_of new.base) relation row ≡ true → (is_named old_on relation row ≡ true) ⊎ (is_named new_on relation row ≡ true)
  pub touches : AreTouches old new walk.touches
