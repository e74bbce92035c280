-- How wide answers are, and what a state's rows are.
use Rattle.std.proofs.Common.{◌≡◌, ℕ, zero, suc, true, false, cond, List, [], ◌∷◌, length, Option, Some, None, subst, inl, inr}
use Rattle.std.specs.List.{AllByRecursion}
use Rattle.std.specs.Prelude.{filter_map}
use Rattle.std.proofs.lemmas.List.{length-map}
use Rattle.lt_face.specs.Lists.{IsIn}
use Rattle.lt_face.specs.Rows.{IsRow, IsAscending}
use Rattle.lt_face.specs.State.{Row, State, Has, rows_in}
use Rattle.lt_face.proofs.RowLemmas.{each_with_row}
use Rattle.lt_model.specs.declared.normal.Term.{Term}
use Rattle.lt_model.specs.declared.normal.Body.{Body}
use Rattle.lt_model.specs.Answers.{assignment_of, cells_of, cell_of, fits_pick, picks, answer_of, ascending, answers}
use Rattle.lt_model.specs.Fits.{IsWide}
use Rattle.lt_model.specs.State.{IsState}

-- ---- answers are as wide as their terms

abbrev cons_found : Option Row → List Row → List Row
cons_found None rows = rows
cons_found (Some row) rows = row ∷ rows

found_wide : (terms : List Term) (body : Body) (state : State) (all : List (List Row)) → AllByRecursion (λ row. length row ≡ length terms) (filter_map (answer_of terms body state) all)
found_wide terms body state [] = tt
found_wide terms body state (pick ∷ all) =
    elim (fits_pick body state (assignment_of body pick) pick) as (λ b. AllByRecursion (λ row. length row ≡ length terms) (cons_found (cond b (Some (cells_of (assignment_of body pick) terms)) None) (filter_map (answer_of terms body state) all))) [
      | true ↦ (length-map terms (cell_of (assignment_of body pick)), found_wide terms body state all)
      | false ↦ found_wide terms body state all
    ]

ascending_each : (P : Row → Type 0) (rows : List Row) → AllByRecursion P rows → AllByRecursion P (ascending rows)
ascending_each P [] all = tt
ascending_each P (row ∷ rows) all = each_with_row P (ascending rows) row (ascending_each P rows all.1) all.0

pub answers_wide : (terms : List Term) (body : Body) (state : State) → AllByRecursion (λ row. length row ≡ length terms) (answers terms body state)
answers_wide terms body state = ascending_each (λ row. length row ≡ length terms) (filter_map (answer_of terms body state) (picks body.atoms state)) (found_wide terms body state (picks body.atoms state))

pub each_in : {X : Type 0} (P : X → Type 0) (x : X) (xs : List X) → AllByRecursion P xs → IsIn x xs → P x
each_in P x [] all h = absurd h
each_in P x (y ∷ xs) all h = elim h [ inl e ↦ subst P e all.0 | inr k ↦ each_in P x xs all.1 k ]

-- ---- a state's rows are as wide as their relation, and of cells

pub state_row : (state : State) (relation width : ℕ) (row : Row) → IsState state → IsWide state relation width → Has state relation row → IsRow width row
state_row [] relation width row is wide h = absurd h
state_row (r ∷ state) zero width row is wide h =
    let same : r.width ≡ width = some_is r.width width wide in
    subst (λ n. IsRow n row) same (each_in (IsRow r.width) row r.rows is.0.each h)
  where
    some_is : (x y : ℕ) → Some x ≡ Some y → x ≡ y
    some_is x y e = cc
state_row (r ∷ state) (suc relation) width row is wide h = state_row state relation width row is.1 wide h

-- a relation's rows ascend
pub state_rises : (state : State) (relation : ℕ) → IsState state → IsAscending (rows_in state relation)
state_rises [] relation is = tt
state_rises (r ∷ state) zero is = is.0.rises
state_rises (r ∷ state) (suc relation) is = state_rises state relation is.1
