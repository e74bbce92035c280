-- Where a body holds its bound variables have cells, so the rows of its answers are of cells.
use Rattle.std.proofs.Common.{◌≡◌, ℕ, zero, suc, ◌+◌, ◌-◌, ◌<◌, ◌≤◌, Bool, true, false, cond, ◌&&◌, List, [], ◌∷◌, ◌++◌, map, Option, Some, None, refl, sym, ap, ◌∙◌, subst, arith}
use Rattle.std.specs.Prelude.{◌==◌, if◌then◌else◌, nat_lt, nat_le, filter_map, flat_map, option_and_then, unwrap_or, IsTrue}
use Rattle.std.specs.List.{AllByRecursion, list_all, cons_option}
use Rattle.std.proofs.lemmas.Bool.{and_parts}
use Rattle.std.proofs.lemmas.Bool.Decides.{nat_tests}
use Rattle.lt_face.specs.Rows.{IsCell}
use Rattle.lt_face.specs.State.{Row, State, rows_in}
use Rattle.lt_face.proofs.RowLemmas.{each_with_row}
use Rattle.lt_model.specs.declared.normal.Term.{Term}
use Rattle.lt_model.specs.declared.normal.Term.TheVariants.{Var, Cell}
use Rattle.lt_model.specs.declared.normal.Atom.{Atom}
use Rattle.lt_model.specs.declared.normal.Body.{Body}
use Rattle.lt_model.specs.declared.normal.Test.{Test}
use Rattle.lt_model.specs.declared.normal.Test.TheVariants.{Cmp, Sum}
use Rattle.lt_model.specs.declared.syntax.Op.TheVariants.{Eq}
use Rattle.lt_model.specs.Cells.{is_cell, sum_of, int_or_none, zero_cell, last_int}
use Rattle.lt_model.specs.Answers.{Assignment, Values, cells_of, rows_under, passes, holds, or_else, value_at, term_value, terms_of, give_value, give, give_all, picks, rows_eq, lacks, fits_pick, assignment_of, answer_of, answers, ascending}
use Rattle.lt_model.specs.Bound.{stands, is_known, is_bound, are_bound}
use Rattle.lt_model.specs.Fits.{IsTermOf, test_terms}
use Rattle.lt_model.proofs.Laws.{same_is}
use Rattle.lt_join.specs.Values.{assigned}
use Rattle.lt_query.proofs.Given.{Agrees, given_all, value_at_told, flat_rows}
use Rattle.lt_program.proofs.LaidRows.{HasCells}

abbrev pub AreRows : List Row → Type 0
AreRows rows = AllByRecursion (AllByRecursion IsCell) rows

-- ---- literals with `=` leave the values that are there

kept_else : (o p : Option ℕ) (y : ℕ) → o ≡ Some y → or_else o p ≡ Some y
kept_else None p y e = cc
kept_else (Some x) p y e = e

kept_value : (values : Values) (v : ℕ) (x : Option ℕ) (u y : ℕ) → values u ≡ Some y → give_value values v x u ≡ Some y
kept_value values v x u y e = elim (u == v) as (λ b. cond b (or_else (values u) x) (values u) ≡ Some y) [ true ↦ kept_else (values u) x y e | false ↦ e ]

kept_give : (values : Values) (test : Test) (u y : ℕ) → values u ≡ Some y → give values test u ≡ Some y
kept_give values (Cmp (Var v) Eq right) u y e = kept_value values v (term_value values right) u y e
kept_give values (Sum v a minus b) u y e = kept_value values v (option_and_then (λ x. option_and_then (λ z. sum_of minus x z) (term_value values b)) (term_value values a)) u y e
kept_give values (Cmp left op right) u y e = e

kept : (values : Values) (tests : List Test) (u y : ℕ) → values u ≡ Some y → give_all values tests u ≡ Some y
kept values [] u y e = e
kept values (test ∷ tests) u y e = kept (give values test) tests u y (kept_give values test u y e)

-- a variable with a value has it in the assignment
pub assigned_has : (values : Values) (tests : List Test) (u y : ℕ) → values u ≡ Some y → assigned (give_all values tests) u ≡ y
assigned_has values tests u y e = ap (λ o. unwrap_or o 0) (kept values tests u y e)

-- ---- the picks of a state with cells

all_append : {X : Type 0} (P : X → Type 0) (xs ys : List X) → AllByRecursion P xs → AllByRecursion P ys → AllByRecursion P (xs ++ ys)
all_append P [] ys h k = k
all_append P (x ∷ xs) ys h k = (h.0, all_append P xs ys h.1 k)

picks_with : (row : Row) (ps : List (List Row)) → AllByRecursion IsCell row → AllByRecursion AreRows ps → AllByRecursion AreRows (map (λ pick. row ∷ pick) ps)
picks_with row [] h all = tt
picks_with row (p ∷ ps) h all = ((h, all.0), picks_with row ps h all.1)

rows_cells : (state : State) (r : ℕ) → HasCells state → AreRows (rows_in state r)
rows_cells [] zero h = tt
rows_cells [] (suc r) h = tt
rows_cells (relation ∷ state) zero h = h.0
rows_cells (relation ∷ state) (suc r) h = rows_cells state r h.1

picks_from : (ps : List (List Row)) (rows : List Row) → AllByRecursion AreRows ps → AreRows rows → AllByRecursion AreRows (flat_map (λ row. map (λ pick. row ∷ pick) ps) rows)
picks_from ps [] h all = tt
picks_from ps (row ∷ rows) h all =
    all_append AreRows (map (λ pick. row ∷ pick) ps) (flat_map (λ row. map (λ pick. row ∷ pick) ps) rows) (picks_with row ps all.0 h) (picks_from ps rows h all.1)

pub picks_cells : (state : State) (atoms : List Atom) → HasCells state → AllByRecursion AreRows (picks atoms state)
picks_cells state [] h = (tt, tt)
picks_cells state (atom ∷ atoms) h = picks_from (picks atoms state) (rows_in state atom.relation) (picks_cells state atoms h) (rows_cells state atom.relation h)

pub rows_eq_is : (xs ys : List Row) → rows_eq xs ys ≡ true → xs ≡ ys
rows_eq_is [] [] h = refl
rows_eq_is [] (y ∷ ys) h = cc
rows_eq_is (x ∷ xs) [] h = cc
rows_eq_is (x ∷ xs) (y ∷ ys) h =
    let both = and_parts _ _ h in
    let head : x ≡ y = same_is x y both.0 in
    let tail : xs ≡ ys = rows_eq_is xs ys both.1 in cc

-- ---- values are cells

abbrev sum_value : Bool → Option ℕ → Option ℕ → Option ℕ
sum_value minus x y = option_and_then (λ p. option_and_then (λ q. sum_of minus p q) y) x

sum_parts : (minus : Bool) (x y : Option ℕ) (z : ℕ) → sum_value minus x y ≡ Some z → (p : ℕ) × (q : ℕ) × (x ≡ Some p) × (y ≡ Some q) × (sum_of minus p q ≡ Some z)
sum_parts minus None y z e = cc
sum_parts minus (Some p) None z e = cc
sum_parts minus (Some p) (Some q) z e = (p, q, refl, refl, e)

AreValues : Values → Type 0
AreValues values = (u y : ℕ) → values u ≡ Some y → IsCell y

some_is : (x y : ℕ) → Some x ≡ Some y → x ≡ y
some_is x y e = cc

int_cell : (x z : ℕ) → int_or_none x ≡ Some z → IsCell z
int_cell x z e =
    elim (nat_lt 0 x && nat_le x last_int) as (λ b. (nat_lt 0 x && nat_le x last_int) ≡ b → cond b (Some x) None ≡ Some z → IsCell z) [
      | true ↦ λ h k.
          let same : x ≡ z = some_is x z k in
          let both = and_parts (nat_lt 0 x) (nat_le x last_int) h in
          let low : 0 < x = grind (arith, nat_tests, both.0) in
          let high : x ≤ last_int = grind (arith, nat_tests, both.1) in (omega arith, omega arith)
      | false ↦ λ h k. cc
    ] refl e

sum_cell : (minus : Bool) (p q z : ℕ) → sum_of minus p q ≡ Some z → IsCell z
sum_cell minus p q z e = int_cell (if minus then (p + zero_cell) - q else (p + q) - zero_cell) z e

term_cell : (vars : ℕ) (values : Values) (t : Term) (y : ℕ) → AreValues values → IsTermOf vars t → term_value values t ≡ Some y → IsCell y
unfolding AreValues
term_cell vars values (Var v) y cells h e = cells v y e
term_cell vars values (Cell c) y cells h e = subst IsCell (some_is c y e) h

given_cells : (values : Values) (v : ℕ) (x : Option ℕ) → AreValues values → ((y : ℕ) → x ≡ Some y → IsCell y) → AreValues (give_value values v x)
unfolding AreValues
given_cells values v x cells f u y e =
    elim (u == v) as (λ b. cond b (or_else (values u) x) (values u) ≡ Some y → IsCell y) [
      | true ↦ λ k. elim (values u) as (λ o. values u ≡ o → or_else o x ≡ Some y → IsCell y) [ None ↦ λ none m. f y m | Some z ↦ λ some m. cells u y (some ∙ m) ] refl k
      | false ↦ λ k. cells u y k
    ] e

-- the variables' numbers are below `vars`, and the constants are cells
abbrev pub AreTestsOf : ℕ → List Test → Type 0
AreTestsOf vars tests = AllByRecursion (λ test. AllByRecursion (IsTermOf vars) (test_terms test)) tests

give_cells : (vars : ℕ) (values : Values) (test : Test) → AreValues values → AllByRecursion (IsTermOf vars) (test_terms test) → AreValues (give values test)
give_cells vars values (Cmp (Var v) Eq right) cells h = given_cells values v (term_value values right) cells (λ y e. term_cell vars values right y cells h.1.0 e)
give_cells vars values (Sum v a minus b) cells h = given_cells values v (sum_value minus (term_value values a) (term_value values b)) cells (λ y e.
    let parts = sum_parts minus (term_value values a) (term_value values b) y e in sum_cell minus parts.0 parts.1 y parts.4)
give_cells vars values (Cmp left op right) cells h = cells

all_give_cells : (vars : ℕ) (values : Values) (tests : List Test) → AreValues values → AreTestsOf vars tests → AreValues (give_all values tests)
all_give_cells vars values [] cells h = cells
all_give_cells vars values (test ∷ tests) cells h = all_give_cells vars (give values test) tests (give_cells vars values test cells h.0) h.1

value_at_cells : (ts : List Term) (row : Row) → AllByRecursion IsCell row → AreValues (value_at ts row)
unfolding AreValues
value_at_cells [] row h u y e = cc
value_at_cells (t ∷ ts) [] h u y e = cc
value_at_cells (Cell c ∷ ts) (x ∷ xs) h u y e = value_at_cells ts xs h.1 u y e
value_at_cells (Var v ∷ ts) (x ∷ xs) h u y e =
    elim (v == u) as (λ b. cond b (Some x) (value_at ts xs u) ≡ Some y → IsCell y) [ true ↦ λ k. subst IsCell (some_is x y k) h.0 | false ↦ λ k. value_at_cells ts xs h.1 u y k ] e

append_cells : (xs ys : Row) → AllByRecursion IsCell xs → AllByRecursion IsCell ys → AllByRecursion IsCell (xs ++ ys)
append_cells [] ys h k = k
append_cells (x ∷ xs) ys h k = (h.0, append_cells xs ys h.1 k)

flat_cells : (pick : List Row) → AreRows pick → AllByRecursion IsCell (flat_map (λ row. row) pick)
flat_cells [] h = tt
flat_cells (row ∷ pick) h = append_cells row (flat_map (λ r. r) pick) h.0 (flat_cells pick h.1)

-- ---- answers

each_cell : (vars : ℕ) (known : ℕ → Bool) (values : Values) (a : Assignment) (terms : List Term) → Agrees known values a → AreValues values → AllByRecursion (IsTermOf vars) terms → list_all (is_known known) terms ≡ true → AllByRecursion IsCell (cells_of a terms)
unfolding AreValues
each_cell vars known values a [] agrees cells h k = tt
each_cell vars known values a (Var v ∷ terms) agrees cells h k =
    let both = and_parts (known v) (list_all (is_known known) terms) k in
    (cells v (a v) (agrees.told v both.0), each_cell vars known values a terms agrees cells h.1 both.1)
each_cell vars known values a (Cell c ∷ terms) agrees cells h k = (h.0, each_cell vars known values a terms agrees cells h.1 k)

answer_cells : (vars : ℕ) (terms : List Term) (body : Body) (state : State) (pick : List Row) → AreTestsOf vars body.tests → AllByRecursion (IsTermOf vars) terms → IsTrue (are_bound body terms) → AreRows pick → fits_pick body state (assignment_of body pick) pick ≡ true → AllByRecursion IsCell (cells_of (assignment_of body pick) terms)
answer_cells vars terms body state pick tests_of terms_are bound rows fits =
    let a : Assignment = assignment_of body pick in
    let first : Values = value_at (terms_of body.atoms) (flat_map (λ row. row) pick) in
    let parts = and_parts (rows_eq (rows_under a body.atoms) pick) (holds a body && lacks a body.absents state) fits in
    let tests = and_parts (list_all (λ row. list_all is_cell row) (rows_under a body.atoms)) (list_all (passes a) body.tests) (and_parts (holds a body) (lacks a body.absents state) parts.1).0 in
    let flat : flat_map (λ row. row) pick ≡ cells_of a (terms_of body.atoms) = ap (flat_map (λ row. row)) (sym (rows_eq_is (rows_under a body.atoms) pick parts.0)) ∙ flat_rows a body.atoms in
    let begun : Agrees (stands (terms_of body.atoms)) first a = record {
      sound = λ u y e. sym (assigned_has first body.tests u y e);
      told = λ u h. ap (λ row. value_at (terms_of body.atoms) row u) flat ∙ value_at_told a (terms_of body.atoms) u h;
    } in
    each_cell vars (is_bound body) (give_all first body.tests) a terms
    (given_all (stands (terms_of body.atoms)) first a body.tests begun tests.1)
    (all_give_cells vars first body.tests (value_at_cells (terms_of body.atoms) (flat_map (λ row. row) pick) (flat_cells pick rows)) tests_of)
    terms_are bound

each_found : {X : Type 0} (P : X → Type 0) (h : X → Option Row) (xs : List X) → ((x : X) (row : Row) → P x → h x ≡ Some row → AllByRecursion IsCell row) → AllByRecursion P xs → AreRows (filter_map h xs)
each_found P h [] f all = tt
each_found P h (x ∷ xs) f all =
    elim (h x) as (λ o. h x ≡ o → AreRows (cons_option o (filter_map h xs))) [ None ↦ λ e. each_found P h xs f all.1 | Some row ↦ λ e. (f x row all.0 e, each_found P h xs f all.1) ] refl

each_ascending : (rows : List Row) → AreRows rows → AreRows (ascending rows)
each_ascending [] all = tt
each_ascending (row ∷ rows) all = each_with_row (AllByRecursion IsCell) (ascending rows) row (each_ascending rows all.1) all.0

-- the rows of a body's answers are of cells
pub answers_cells : (vars : ℕ) (terms : List Term) (body : Body) (state : State) → AreTestsOf vars body.tests → AllByRecursion (IsTermOf vars) terms → IsTrue (are_bound body terms) → HasCells state → AreRows (answers terms body state)
answers_cells vars terms body state tests_of terms_are bound cells =
    each_ascending (filter_map (answer_of terms body state) (picks body.atoms state))
    (each_found AreRows (answer_of terms body state) (picks body.atoms state) (λ pick row h e.
    elim (fits_pick body state (assignment_of body pick) pick) as (λ b. fits_pick body state (assignment_of body pick) pick ≡ b → cond b (Some (cells_of (assignment_of body pick) terms)) None ≡ Some row → AllByRecursion IsCell row) [
      | true ↦ λ fits k. subst (AllByRecursion IsCell) (row_is (cells_of (assignment_of body pick) terms) row k) (answer_cells vars terms body state pick tests_of terms_are bound h fits)
      | false ↦ λ fits k. cc
    ] refl e) (picks_cells state body.atoms cells))
  where
    row_is : (x y : Row) → Some x ≡ Some y → x ≡ y
    row_is x y e = cc
