-- What a body says: assignments, and the answers over a state.
use Rattle.std.specs.Prelude.{ℕ, Bool, true, false, ◌&&◌, not, ◌==◌, nat_lt, nat_le, if◌then◌else◌, List, [], ◌∷◌, map, Option, Some, None, unwrap_or, filter_map, flat_map, option_and_then}
use Rattle.std.specs.List.{list_all, list_any}
use Rattle.std.specs.Ordering.{is_eq}
use Rattle.lt_face.specs.Rows.{row_cmp, has_row, with_row}
use Rattle.lt_model.specs.declared.syntax.Op.{Op}
use Rattle.lt_model.specs.declared.syntax.Op.TheVariants.{Eq, Ne, Lt, Le, Gt, Ge}
use Rattle.lt_model.specs.declared.normal.Term.{Term}
use Rattle.lt_model.specs.declared.normal.Term.TheVariants.{Var, Cell}
use Rattle.lt_model.specs.declared.normal.Atom.{Atom}
use Rattle.lt_model.specs.declared.normal.Test.{Test}
use Rattle.lt_model.specs.declared.normal.Test.TheVariants.{Cmp, Sum}
use Rattle.lt_model.specs.declared.normal.Body.{Body}
use Rattle.lt_model.specs.Cells.{is_cell, sum_of}
use Rattle.lt_face.specs.State.{Row, State, rows_in}

-- ---- assignments

-- a cell for each variable
abbrev pub Assignment : Type 0
Assignment = ℕ → ℕ

-- a term's cell
abbrev pub cell_of : Assignment → Term → ℕ
cell_of a (Var v) = a v
cell_of a (Cell c) = c

-- the cells of terms: an atom's row, an answer
abbrev pub cells_of : Assignment → List Term → Row
cells_of a terms = map (cell_of a) terms

-- the rows that the atoms name
abbrev pub rows_under : Assignment → List Atom → List Row
rows_under a atoms = map (λ (atom : Atom). cells_of a atom.terms) atoms

abbrev pub compare_by : Op → ℕ → ℕ → Bool
compare_by Eq x y = x == y
compare_by Ne x y = not (x == y)
compare_by Lt x y = nat_lt x y
compare_by Le x y = nat_le x y
compare_by Gt x y = nat_lt y x
compare_by Ge x y = nat_le y x

abbrev pub is_value : Option ℕ → ℕ → Bool
is_value None x = false
is_value (Some y) x = y == x

-- whether a comparison or a sum holds
abbrev pub passes : Assignment → Test → Bool
passes a (Cmp left op right) = compare_by op (cell_of a left) (cell_of a right)
passes a (Sum v x minus y) = is_value (sum_of minus (cell_of a x) (cell_of a y)) (a v)

-- whether the atoms' rows are of cells, and each comparison and each sum holds
abbrev pub holds : Assignment → Body → Bool
holds a body = list_all (λ row. list_all is_cell row) (rows_under a body.atoms) && list_all (passes a) body.tests

-- ---- the assignment of a pick

-- the values that some variables have
abbrev pub Values : Type 0
Values = ℕ → Option ℕ

-- a variable has the cell at its first place in the atoms
abbrev pub value_at : List Term → Row → Values
value_at [] row v = None
value_at (t ∷ ts) [] v = None
value_at (Cell c ∷ ts) (x ∷ xs) v = value_at ts xs v
value_at (Var u ∷ ts) (x ∷ xs) v = if u == v then Some x else value_at ts xs v

abbrev pub term_value : Values → Term → Option ℕ
term_value values (Var v) = values v
term_value values (Cell c) = Some c

abbrev pub or_else : Option ℕ → Option ℕ → Option ℕ
or_else None y = y
or_else (Some x) y = Some x

-- the variable has this value, if it had none
abbrev pub give_value : Values → ℕ → Option ℕ → Values
give_value values v x u = if u == v then or_else (values u) x else values u

-- a literal with `=` gives the variable on its left the value of its right side, if that has one
abbrev pub give : Values → Test → Values
give values (Cmp (Var v) Eq right) = give_value values v (term_value values right)
give values (Sum v a minus b) = give_value values v (option_and_then (λ x. option_and_then (λ y. sum_of minus x y) (term_value values b)) (term_value values a))
give values (Cmp left op right) = values

abbrev pub give_all : Values → List Test → Values
give_all values [] = values
give_all values (test ∷ tests) = give_all (give values test) tests

abbrev pub terms_of : List Atom → List Term
terms_of atoms = flat_map (λ (atom : Atom). atom.terms) atoms

-- the assignment that a pick gives: its cells first, then the literals with `=` in text order
abbrev pub assignment_of : Body → List Row → Assignment
assignment_of body pick v = unwrap_or (give_all (value_at (terms_of body.atoms) (flat_map (λ row. row) pick)) body.tests v) 0

-- ---- answers

-- the whole product: one row of the state for each atom
abbrev pub picks : List Atom → State → List (List Row)
picks [] state = [] ∷ []
picks (atom ∷ atoms) state = flat_map (λ row. map (λ pick. row ∷ pick) (picks atoms state)) (rows_in state atom.relation)

abbrev pub rows_eq : List Row → List Row → Bool
rows_eq [] [] = true
rows_eq [] (y ∷ ys) = false
rows_eq (x ∷ xs) [] = false
rows_eq (x ∷ xs) (y ∷ ys) = is_eq (row_cmp x y) && rows_eq xs ys

-- whether the state has none of the rows that the negated atoms name
abbrev pub lacks : Assignment → List Atom → State → Bool
lacks a absents state = list_all (λ (atom : Atom). not (has_row (rows_in state atom.relation) (cells_of a atom.terms))) absents

-- whether a pick is the rows of an assignment that holds and has no absent row in the state
abbrev pub fits_pick : Body → State → Assignment → List Row → Bool
fits_pick body state a pick = rows_eq (rows_under a body.atoms) pick && (holds a body && lacks a body.absents state)

-- the terms' cells, where the pick fits
abbrev pub answer_of : List Term → Body → State → List Row → Option Row
answer_of terms body state pick = let a : Assignment = assignment_of body pick in if fits_pick body state a pick then Some (cells_of a terms) else None

-- ascending, without repeats
abbrev pub ascending : List Row → List Row
ascending [] = []
ascending (row ∷ rows) = with_row (ascending rows) row

-- the terms' cells over all picks that fit
abbrev pub answers : List Term → Body → State → List Row
answers terms body state = ascending (filter_map (answer_of terms body state) (picks body.atoms state))

-- whether there is such a pick
abbrev pub some_answer : Body → State → Bool
some_answer body state = list_any (λ pick. fits_pick body state (assignment_of body pick) pick) (picks body.atoms state)
