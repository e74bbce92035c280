-- The picks of a body, row by row of its first atom.
use Rattle.std.proofs.Common.{◌≡◌, ℕ, Bool, true, false, cond, ◌&&◌, ◌||◌, List, [], ◌∷◌, ◌++◌, map, Option, Some, None, refl, sym, ap, ◌∙◌, arith}
use Rattle.std.specs.Prelude.{filter_map, flat_map}
use Rattle.std.specs.List.{AllByRecursion, cons_option, list_all, list_any}
use Rattle.std.proofs.lemmas.Bool.{and_from}
use Rattle.std.proofs.lemmas.Bool.Decides.{nat_tests}
use Rattle.std.proofs.lemmas.List.Elements.{filter_map-append}
use Rattle.std.proofs.lemmas.List.Folds.{list_any-append}
use Rattle.lt_face.specs.Rows.{IsCell}
use Rattle.lt_face.proofs.RowLemmas.{each_weaker}
use Rattle.lt_face.specs.State.{Row, State, rows_in}
use Rattle.lt_model.specs.declared.normal.Term.{Term}
use Rattle.lt_model.specs.declared.normal.Atom.{Atom}
use Rattle.lt_model.specs.declared.normal.Test.{Test}
use Rattle.lt_model.specs.declared.normal.Body.{Body}
use Rattle.lt_model.specs.Cells.{is_cell}
use Rattle.lt_model.specs.Answers.{Assignment, Values, or_else, cells_of, rows_under, passes, give_all, picks, rows_eq, lacks, fits_pick, assignment_of, answer_of, answers, some_answer, ascending}
use Rattle.lt_join.specs.Values.{assigned}
use Rattle.lt_program.proofs.BoundCells.{AreRows, picks_cells, rows_eq_is}
use Rattle.lt_program.proofs.LaidRows.{HasCells}
use Rattle.lt_reference.specs.Values.{matched}
use Rattle.lt_reference.specs.Walk.{bare, AreCells, bears, begun, fits_from, answer_from, found_from, some_from, leaf}
use Rattle.lt_reference.proofs.LaidRows.{bare_each}
use Rattle.lt_reference.proofs.Walking.{fits_missed, fits_met, answer_missed, answer_met}

-- ---- lists

filter_map-map : {X Y Z : Type 0} (h : Y → Option Z) (f : X → Y) (xs : List X) → filter_map h (map f xs) ≡ filter_map (λ x. h (f x)) xs
filter_map-map h f [] = refl
filter_map-map h f (x ∷ xs) = ap (cons_option (h (f x))) (filter_map-map h f xs)

filter_map-flat_map : {X Y Z : Type 0} (h : Y → Option Z) (f : X → List Y) (xs : List X) → filter_map h (flat_map f xs) ≡ flat_map (λ x. filter_map h (f x)) xs
filter_map-flat_map h f [] = refl
filter_map-flat_map h f (x ∷ xs) = filter_map-append h (f x) (flat_map f xs) ∙ ap (λ ys. filter_map h (f x) ++ ys) (filter_map-flat_map h f xs)

filter_map-same : {X Y : Type 0} (h k : X → Option Y) → ((x : X) → h x ≡ k x) → (xs : List X) → filter_map h xs ≡ filter_map k xs
filter_map-same h k same xs = let e : h ≡ k = λ i. λ x. same x i in ap (λ f. filter_map f xs) e

filter_map-none : {X Y : Type 0} (h : X → Option Y) → ((x : X) → h x ≡ None) → (xs : List X) → filter_map h xs ≡ []
filter_map-none h none [] = refl
filter_map-none h none (x ∷ xs) = rw (none x) (filter_map-none h none xs)

list_any-map : {X Y : Type 0} (p : Y → Bool) (f : X → Y) (xs : List X) → list_any p (map f xs) ≡ list_any (λ x. p (f x)) xs
list_any-map p f [] = refl
list_any-map p f (x ∷ xs) = ap (λ b. p (f x) || b) (list_any-map p f xs)

list_any-flat_map : {X Y : Type 0} (p : Y → Bool) (f : X → List Y) (xs : List X) → list_any p (flat_map f xs) ≡ list_any (λ x. list_any p (f x)) xs
list_any-flat_map p f [] = refl
list_any-flat_map p f (x ∷ xs) = list_any-append p (f x) (flat_map f xs) ∙ ap (λ b. list_any p (f x) || b) (list_any-flat_map p f xs)

list_any-same : {X : Type 0} (p q : X → Bool) → ((x : X) → p x ≡ q x) → (xs : List X) → list_any p xs ≡ list_any q xs
list_any-same p q same xs = let e : p ≡ q = λ i. λ x. same x i in ap (λ f. list_any f xs) e

list_any-false : {X : Type 0} (p : X → Bool) → ((x : X) → p x ≡ false) → (xs : List X) → list_any p xs ≡ false
list_any-false p none [] = refl
list_any-false p none (x ∷ xs) = rw (none x) (list_any-false p none xs)

-- ---- row by row

module _ (values : Values) (atom : Atom) (atoms : List Atom) (tests : List Test) (absents : List Atom) (state : State) where
  -- what the picks with this row first give
  abbrev pub row_found : List Term → Row → List Row
  row_found terms row = filter_map (λ pick. answer_from terms values (atom ∷ atoms) tests absents state (row ∷ pick)) (picks atoms state)

  abbrev pub row_some : Row → Bool
  row_some row = list_any (λ pick. fits_from values (atom ∷ atoms) tests absents state (row ∷ pick)) (picks atoms state)

  pub found_rows : (terms : List Term) → found_from terms values (atom ∷ atoms) tests absents state ≡ flat_map (row_found terms) (rows_in state atom.relation)
  found_rows terms =
      filter_map-flat_map (answer_from terms values (atom ∷ atoms) tests absents state) (λ row. map (λ pick. row ∷ pick) (picks atoms state)) (rows_in state atom.relation)
      ∙ (let each : (λ (row : Row). filter_map (answer_from terms values (atom ∷ atoms) tests absents state) (map (λ pick. row ∷ pick) (picks atoms state))) ≡ row_found terms = λ i. λ row. filter_map-map (answer_from terms values (atom ∷ atoms) tests absents state) (λ pick. row ∷ pick) (picks atoms state) i in
      ap (λ f. flat_map f (rows_in state atom.relation)) each)

  pub some_rows : some_from values (atom ∷ atoms) tests absents state ≡ list_any row_some (rows_in state atom.relation)
  some_rows =
      list_any-flat_map (fits_from values (atom ∷ atoms) tests absents state) (λ row. map (λ pick. row ∷ pick) (picks atoms state)) (rows_in state atom.relation)
      ∙ list_any-same _ row_some (λ row. list_any-map (fits_from values (atom ∷ atoms) tests absents state) (λ pick. row ∷ pick) (picks atoms state)) (rows_in state atom.relation)

  pub row_found-missed : (terms : List Term) (row : Row) → matched values atom.terms row ≡ None → row_found terms row ≡ []
  row_found-missed terms row e = filter_map-none _ (λ pick. answer_missed atoms pick terms tests absents state values atom row e) (picks atoms state)

  pub row_found-met : (terms : List Term) (row : Row) (next : Values) → matched values atom.terms row ≡ Some next → row_found terms row ≡ found_from terms next atoms tests absents state
  row_found-met terms row next e = filter_map-same _ _ (λ pick. answer_met atoms pick terms tests absents state values atom row next e) (picks atoms state)

  pub row_some-missed : (row : Row) → matched values atom.terms row ≡ None → row_some row ≡ false
  row_some-missed row e = list_any-false _ (λ pick. fits_missed atoms pick [] tests absents state values atom row e) (picks atoms state)

  pub row_some-met : (row : Row) (next : Values) → matched values atom.terms row ≡ Some next → row_some row ≡ some_from next atoms tests absents state
  row_some-met row next e = list_any-same _ _ (λ pick. fits_met atoms pick [] tests absents state values atom row next e) (picks atoms state)

-- ---- no atom is left

begun_end : (values : Values) → begun values [] [] ≡ values
begun_end values = λ i. λ u. each (values u) i
  where
    each : (o : Option ℕ) → or_else o None ≡ o
    each None = refl
    each (Some x) = refl

pub some_end : (values : Values) (tests : List Test) (absents : List Atom) (state : State) → some_from values [] tests absents state ≡ bears (assigned (give_all values tests)) tests absents state
some_end values tests absents state =
    last (bears (assigned (give_all (begun values [] []) tests)) tests absents state)
    ∙ ap (λ (w : Values). bears (assigned (give_all w tests)) tests absents state) (begun_end values)
  where
    last : (b : Bool) → (b || false) ≡ b
    last true = refl
    last false = refl

pub found_end : (terms : List Term) (values : Values) (tests : List Test) (absents : List Atom) (state : State) → found_from terms values [] tests absents state ≡ cons_option (leaf terms values tests absents state) []
found_end terms values tests absents state = ap (λ (w : Values). cons_option (cond (bears (assigned (give_all w tests)) tests absents state) (Some (cells_of (assigned (give_all w tests)) terms)) None) []) (begun_end values)

-- ---- the picks of a body, from no values on

cell_is : (x : ℕ) → IsCell x → is_cell x ≡ true
cell_is x h = grind (arith, nat_tests, h)

row_is : (row : Row) → AllByRecursion IsCell row → list_all is_cell row ≡ true
row_is [] h = refl
row_is (x ∷ row) h = and_from (is_cell x) (list_all is_cell row) (cell_is x h.0) (row_is row h.1)

rows_are : (rows : List Row) → AreRows rows → list_all (λ row. list_all is_cell row) rows ≡ true
rows_are [] h = refl
rows_are (row ∷ rows) h = and_from (list_all is_cell row) (list_all (λ row. list_all is_cell row) rows) (row_is row h.0) (rows_are rows h.1)

pub has_cells : (relations : List (List Row)) → AreCells relations → HasCells (bare relations)
has_cells relations h = bare_each (AllByRecursion (AllByRecursion IsCell)) relations h

-- no value is there
abbrev pub nothing : Values
nothing v = None

fits_same : (body : Body) (state : State) (pick : List Row) → AreRows pick → fits_pick body state (assignment_of body pick) pick ≡ fits_from nothing body.atoms body.tests body.absents state pick
fits_same body state pick cells =
    let a : Assignment = assignment_of body pick in
    elim (rows_eq (rows_under a body.atoms) pick) as
    (λ b. rows_eq (rows_under a body.atoms) pick ≡ b → (b && ((list_all (λ row. list_all is_cell row) (rows_under a body.atoms) && list_all (passes a) body.tests) && lacks a body.absents state)) ≡ (b && bears a body.tests body.absents state)) [
      | true ↦ λ e. ap (λ c. (c && list_all (passes a) body.tests) && lacks a body.absents state) (ap (list_all (λ row. list_all is_cell row)) (rows_eq_is (rows_under a body.atoms) pick e) ∙ rows_are pick cells)
      | false ↦ λ e. refl
    ] refl

answer_same : (terms : List Term) (body : Body) (state : State) (pick : List Row) → AreRows pick → answer_of terms body state pick ≡ answer_from terms nothing body.atoms body.tests body.absents state pick
answer_same terms body state pick cells = ap (λ b. cond b (Some (cells_of (assignment_of body pick) terms)) None) (fits_same body state pick cells)

filter_map-each : {X Y : Type 0} (h k : X → Option Y) (xs : List X) → AllByRecursion (λ x. h x ≡ k x) xs → filter_map h xs ≡ filter_map k xs
filter_map-each h k [] all = refl
filter_map-each h k (x ∷ xs) all = ap (λ o. cons_option o (filter_map h xs)) all.0 ∙ ap (cons_option (k x)) (filter_map-each h k xs all.1)

list_any-each : {X : Type 0} (p q : X → Bool) (xs : List X) → AllByRecursion (λ x. p x ≡ q x) xs → list_any p xs ≡ list_any q xs
list_any-each p q [] all = refl
list_any-each p q (x ∷ xs) all = ap (λ b. b || list_any p xs) all.0 ∙ ap (λ b. q x || b) (list_any-each p q xs all.1)

pub answers_found : (terms : List Term) (body : Body) (relations : List (List Row)) → AreCells relations → ascending (found_from terms nothing body.atoms body.tests body.absents (bare relations)) ≡ answers terms body (bare relations)
answers_found terms body relations h =
    ap ascending (sym (filter_map-each (answer_of terms body (bare relations)) (answer_from terms nothing body.atoms body.tests body.absents (bare relations)) (picks body.atoms (bare relations))
    (each_weaker AreRows _ (λ pick cells. answer_same terms body (bare relations) pick cells) (picks body.atoms (bare relations)) (picks_cells (bare relations) body.atoms (has_cells relations h)))))

pub some_found : (body : Body) (relations : List (List Row)) → AreCells relations → some_from nothing body.atoms body.tests body.absents (bare relations) ≡ some_answer body (bare relations)
some_found body relations h =
    sym (list_any-each (λ pick. fits_pick body (bare relations) (assignment_of body pick) pick) (fits_from nothing body.atoms body.tests body.absents (bare relations)) (picks body.atoms (bare relations))
    (each_weaker AreRows _ (λ pick cells. fits_same body (bare relations) pick cells) (picks body.atoms (bare relations)) (picks_cells (bare relations) body.atoms (has_cells relations h))))
