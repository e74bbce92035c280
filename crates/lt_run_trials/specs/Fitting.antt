-- What tests run: programs over a relation of one column and one of two.
use Rattle.std.specs.Prelude.{◌≡◌, ℕ, List, [], ◌∷◌, map}
use Rattle.lt_face.specs.State.{Row, Relation, State}
use Rattle.lt_model.specs.declared.normal.Stmt.{Stmt}
use Rattle.lt_model.specs.Fits.{Fits, IsWide}
use Rattle.lt_batch.specs.Work.{IsSnapshot}
use Rattle.lt_reference.specs.Run.{lists}

-- the relations r(int) and e(int, int)
abbrev pub AreBoth : State → Type 0
AreBoth state = map (λ (r : Relation). r.width) state ≡ 1 ∷ 2 ∷ []

-- a program that fits each such state
abbrev pub FitsBoth : List Stmt → Type 0
FitsBoth program = (state : State) → AreBoth state → Fits state program

-- each relation of the one is as wide in the other
abbrev pub KeepsWidths : State → State → Type 0
KeepsWidths old new = (relation width : ℕ) → IsWide old relation width → IsWide new relation width

-- the rows of such a state
pub record AreRowsOfBoth (rows : List (List Row)) : Type 0 where
  pub state : State
  pub has : lists state ≡ rows
  pub is_snapshot : IsSnapshot state
  pub are_both : AreBoth state
