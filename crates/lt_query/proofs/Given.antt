-- The literals with `=` give the bound variables the values that they have in each assignment that holds.
use Rattle.std.specs.Prelude.{◌≡◌, ℕ, Bool, true, false, ◌&&◌, ◌||◌, ◌==◌, List, [], ◌∷◌, ◌++◌, Option, Some, None, ◌⊎◌, unwrap_or, flat_map, option_and_then}
use Rattle.std.specs.List.{AllByRecursion, list_all}
use Rattle.std.proofs.Common.{refl, sym, ap, ◌∙◌, subst, inl, inr, cond}
use Rattle.std.proofs.lemmas.Bool.{and_parts, and_from, or_cases, or_left, or_right, eqb-true, eqb-false, eq-eqb}
use Rattle.lt_face.specs.Lists.{IsIn}
use Rattle.lt_face.specs.State.{Row, State, Has}
use Rattle.lt_model.specs.declared.normal.Term.{Term}
use Rattle.lt_model.specs.declared.normal.Term.TheVariants.{Var, Cell}
use Rattle.lt_model.specs.declared.normal.Atom.{Atom}
use Rattle.lt_model.specs.declared.syntax.Op.TheVariants.{Eq}
use Rattle.lt_model.specs.declared.normal.Test.{Test}
use Rattle.lt_model.specs.declared.normal.Test.TheVariants.{Cmp, Sum}
use Rattle.lt_model.specs.declared.normal.Body.{Body}
use Rattle.lt_model.specs.Cells.{is_cell, sum_of}
use Rattle.lt_model.specs.Answers.{Assignment, Values, cell_of, cells_of, rows_under, passes, is_value, holds, or_else, value_at, term_value, terms_of, give_value, give, give_all, picks, assignment_of, answers, some_answer}
use Rattle.lt_model.specs.Bound.{is_var, stands, is_known, know, know_all, is_bound, are_bound}
use Rattle.lt_model.specs.Fits.{test_terms}
use Rattle.lt_query.specs.Answering.{IsAnswer, IsSatisfied, Lacks, AreTestsBound}
use Rattle.lt_query.proofs.Picks.{IsIn-picks, Stands-from_picks, IsIn-answers, IsIn-answers_from, some_answer-true, some_answer_is}

-- a value that is there is the assignment's, and each known variable has one
pub record Agrees (known : ℕ → Bool) (values : Values) (a : Assignment) : Type 0 where
  pub sound : (u y : ℕ) → values u ≡ Some y → y ≡ a u
  pub told : (u : ℕ) → known u ≡ true → values u ≡ Some (a u)

known_value : (known : ℕ → Bool) (values : Values) (a : Assignment) (t : Term) → Agrees known values a → is_known known t ≡ true → term_value values t ≡ Some (cell_of a t)
known_value known values a (Var v) agrees h = agrees.told v h
known_value known values a (Cell c) agrees h = refl

value_sound : (known : ℕ → Bool) (values : Values) (a : Assignment) (t : Term) (y : ℕ) → Agrees known values a → term_value values t ≡ Some y → y ≡ cell_of a t
value_sound known values a (Var v) y agrees e = agrees.sound v y e
value_sound known values a (Cell c) y agrees e = cc

abbrev sum_value : Bool → Option ℕ → Option ℕ → Option ℕ
sum_value minus x y = option_and_then (λ p. option_and_then (λ q. sum_of minus p q) y) x

sum_parts : (minus : Bool) (x y : Option ℕ) (z : ℕ) → sum_value minus x y ≡ Some z → (p : ℕ) × (q : ℕ) × (x ≡ Some p) × (y ≡ Some q) × (sum_of minus p q ≡ Some z)
sum_parts minus None y z e = cc
sum_parts minus (Some p) None z e = cc
sum_parts minus (Some p) (Some q) z e = (p, q, refl, refl, e)

is_value_at : (o : Option ℕ) (x : ℕ) → is_value o x ≡ true → o ≡ Some x
is_value_at None x h = cc
is_value_at (Some y) x h = ap Some (eqb-true y x h)

or_else_sound : (o p : Option ℕ) (x y : ℕ) → ((z : ℕ) → o ≡ Some z → z ≡ x) → ((z : ℕ) → p ≡ Some z → z ≡ x) → or_else o p ≡ Some y → y ≡ x
or_else_sound None p x y f g e = g y e
or_else_sound (Some z) p x y f g e = f y e

or_else_told : (o : Option ℕ) (x : ℕ) → ((z : ℕ) → o ≡ Some z → z ≡ x) → or_else o (Some x) ≡ Some x
or_else_told None x f = refl
or_else_told (Some z) x f = ap Some (f z refl)

-- one variable gets a value
pub given_value : (known known' : ℕ → Bool) (values : Values) (a : Assignment) (v : ℕ) (x : Option ℕ) → Agrees known values a → ((y : ℕ) → x ≡ Some y → y ≡ a v) → ((u : ℕ) → known' u ≡ true → (known u ≡ true) ⊎ ((u ≡ v) × (x ≡ Some (a v)))) → Agrees known' (give_value values v x) a
given_value known known' values a v x agrees sound more = record {
  sound = λ u y e.
      elim (u == v) as (λ b. (u == v) ≡ b → cond b (or_else (values u) x) (values u) ≡ Some y → y ≡ a u) [
        | true ↦ λ same e. or_else_sound (values u) x (a u) y (agrees.sound u) (λ z q. sound z q ∙ ap a (sym (eqb-true u v same))) e
        | false ↦ λ other e. agrees.sound u y e
      ] refl e;
  told = λ u h.
      elim (u == v) as (λ b. (u == v) ≡ b → cond b (or_else (values u) x) (values u) ≡ Some (a u)) [
        | true ↦ λ same. elim (more u h) [
          | inl k ↦ ap (λ o. or_else o x) (agrees.told u k)
          | inr n ↦ ap (or_else (values u)) (n.1 ∙ ap (λ w. Some (a w)) (sym n.0)) ∙ or_else_told (values u) (a u) (agrees.sound u)
        ]
        | false ↦ λ other. elim (more u h) [ inl k ↦ agrees.told u k | inr n ↦ absurd (eqb-false u v other n.0) ]
      ] refl;
}

-- a literal that holds gives a value of the assignment
given_one : (known : ℕ → Bool) (values : Values) (a : Assignment) (test : Test) → Agrees known values a → passes a test ≡ true → Agrees (know known test) (give values test) a
given_one known values a (Cmp (Var v) Eq right) agrees h =
    let same : a v ≡ cell_of a right = eqb-true (a v) (cell_of a right) h in
    given_value known (know known (Cmp (Var v) Eq right)) values a v (term_value values right) agrees
    (λ y e. value_sound known values a right y agrees e ∙ sym same)
    (λ u k. elim (or_cases (known u) (u == v && is_known known right) k) [
      | inl l ↦ inl l
      | inr r ↦ let both = and_parts (u == v) (is_known known right) r in inr (eqb-true u v both.0, known_value known values a right agrees both.1 ∙ ap Some (sym same))
    ])
given_one known values a (Sum v x minus y) agrees h =
    let value : sum_of minus (cell_of a x) (cell_of a y) ≡ Some (a v) = is_value_at (sum_of minus (cell_of a x) (cell_of a y)) (a v) h in
    given_value known (know known (Sum v x minus y)) values a v (sum_value minus (term_value values x) (term_value values y)) agrees
    (λ z e.
    let parts = sum_parts minus (term_value values x) (term_value values y) z e in
    let p : parts.0 ≡ cell_of a x = value_sound known values a x parts.0 agrees parts.2 in
    let q : parts.1 ≡ cell_of a y = value_sound known values a y parts.1 agrees parts.3 in
    let s : Some z ≡ Some (a v) = sym parts.4 ∙ (ap (λ n. sum_of minus n parts.1) p ∙ (ap (sum_of minus (cell_of a x)) q ∙ value)) in cc)
    (λ u k. elim (or_cases (known u) (u == v && (is_known known x && is_known known y)) k) [
      | inl l ↦ inl l
      | inr r ↦
          let both = and_parts (u == v) (is_known known x && is_known known y) r in
          let terms = and_parts (is_known known x) (is_known known y) both.1 in
          inr (eqb-true u v both.0, ap (λ o. sum_value minus o (term_value values y)) (known_value known values a x agrees terms.0) ∙ (ap (sum_value minus (Some (cell_of a x))) (known_value known values a y agrees terms.1) ∙ value))
    ])
given_one known values a (Cmp left op right) agrees h = agrees

pub given_all : (known : ℕ → Bool) (values : Values) (a : Assignment) (tests : List Test) → Agrees known values a → list_all (passes a) tests ≡ true → Agrees (know_all known tests) (give_all values tests) a
given_all known values a [] agrees h = agrees
given_all known values a (test ∷ tests) agrees h =
    let both = and_parts (passes a test) (list_all (passes a) tests) h in
    given_all (know known test) (give values test) a tests (given_one known values a test agrees both.0) both.1

-- a row under an assignment gives its variables their values
value_at_sound : (a : Assignment) (ts : List Term) (u y : ℕ) → value_at ts (cells_of a ts) u ≡ Some y → y ≡ a u
value_at_sound a [] u y e = cc
value_at_sound a (Cell c ∷ ts) u y e = value_at_sound a ts u y e
value_at_sound a (Var v ∷ ts) u y e =
    elim (v == u) as (λ b. (v == u) ≡ b → cond b (Some (a v)) (value_at ts (cells_of a ts) u) ≡ Some y → y ≡ a u) [
      | true ↦ λ same e. let w = ap a (eqb-true v u same) in cc
      | false ↦ λ other e. value_at_sound a ts u y e
    ] refl e

pub value_at_told : (a : Assignment) (ts : List Term) (u : ℕ) → stands ts u ≡ true → value_at ts (cells_of a ts) u ≡ Some (a u)
value_at_told a [] u h = cc
value_at_told a (Cell c ∷ ts) u h = value_at_told a ts u h
value_at_told a (Var v ∷ ts) u h =
    elim (v == u) as (λ b. (v == u) ≡ b → (b || stands ts u) ≡ true → cond b (Some (a v)) (value_at ts (cells_of a ts) u) ≡ Some (a u)) [
      | true ↦ λ same h. ap (λ w. Some (a w)) (eqb-true v u same)
      | false ↦ λ other h. value_at_told a ts u h
    ] refl h

cells_of-append : (a : Assignment) (xs ys : List Term) → cells_of a (xs ++ ys) ≡ cells_of a xs ++ cells_of a ys
cells_of-append a [] ys = refl
cells_of-append a (x ∷ xs) ys = ap (λ row. cell_of a x ∷ row) (cells_of-append a xs ys)

pub flat_rows : (a : Assignment) (atoms : List Atom) → flat_map (λ row. row) (rows_under a atoms) ≡ cells_of a (terms_of atoms)
flat_rows a [] = refl
flat_rows a (atom ∷ atoms) = ap (λ row. cells_of a atom.terms ++ row) (flat_rows a atoms) ∙ sym (cells_of-append a atom.terms (terms_of atoms))

-- the assignment of a pick is the assignment that the pick is of, at the bound variables
pub assignment_of_rows : (body : Body) (a : Assignment) → list_all (passes a) body.tests ≡ true → (v : ℕ) → is_bound body v ≡ true → assignment_of body (rows_under a body.atoms) v ≡ a v
assignment_of_rows body a h v known =
    let first : Agrees (stands (terms_of body.atoms)) (value_at (terms_of body.atoms) (flat_map (λ row. row) (rows_under a body.atoms))) a =
    rw (flat_rows a body.atoms) (record { sound = value_at_sound a (terms_of body.atoms); told = value_at_told a (terms_of body.atoms) }) in
    let last = given_all (stands (terms_of body.atoms)) (value_at (terms_of body.atoms) (flat_map (λ row. row) (rows_under a body.atoms))) a body.tests first h in
    ap (λ o. unwrap_or o 0) (last.told v known)

module _ (known : ℕ → Bool) (a b : Assignment) (same : (v : ℕ) → known v ≡ true → b v ≡ a v) where
  cell_same : (t : Term) → is_known known t ≡ true → cell_of b t ≡ cell_of a t
  cell_same (Var v) h = same v h
  cell_same (Cell c) h = refl

  pub cells_same : (ts : List Term) → list_all (is_known known) ts ≡ true → cells_of b ts ≡ cells_of a ts
  cells_same [] h = refl
  cells_same (t ∷ ts) h =
      let both = and_parts (is_known known t) (list_all (is_known known) ts) h in
      let head = cell_same t both.0 in
      let tail = cells_same ts both.1 in cc

  test_same : (test : Test) → list_all (is_known known) (test_terms test) ≡ true → passes b test ≡ passes a test
  test_same (Cmp left op right) h =
      let both = and_parts (is_known known left) (list_all (is_known known) (right ∷ [])) h in
      let last = and_parts (is_known known right) true both.1 in
      rw (cell_same left both.0, cell_same right last.0)
  test_same (Sum v x minus y) h =
      let both = and_parts (known v) (list_all (is_known known) (x ∷ y ∷ [])) h in
      let more = and_parts (is_known known x) (list_all (is_known known) (y ∷ [])) both.1 in
      let last = and_parts (is_known known y) true more.1 in
      rw (same v both.0, cell_same x more.0, cell_same y last.0)

  pub tests_same : (tests : List Test) → AllByRecursion (λ (test : Test). list_all (is_known known) (test_terms test) ≡ true) tests → list_all (passes b) tests ≡ list_all (passes a) tests
  tests_same [] h = refl
  tests_same (test ∷ tests) h =
      let head = test_same test h.0 in
      let tail = tests_same tests h.1 in cc

know_keeps : (known : ℕ → Bool) (test : Test) (u : ℕ) → known u ≡ true → know known test u ≡ true
know_keeps known (Cmp (Var v) Eq right) u h = or_left (known u) (u == v && is_known known right) h
know_keeps known (Sum v x minus y) u h = or_left (known u) (u == v && (is_known known x && is_known known y)) h
know_keeps known (Cmp left op right) u h = h

pub know_all_keeps : (known : ℕ → Bool) (tests : List Test) (u : ℕ) → known u ≡ true → know_all known tests u ≡ true
know_all_keeps known [] u h = h
know_all_keeps known (test ∷ tests) u h = know_all_keeps (know known test) tests u (know_keeps known test u h)

stands-append_left : (xs ys : List Term) (v : ℕ) → stands xs v ≡ true → stands (xs ++ ys) v ≡ true
stands-append_left [] ys v h = cc
stands-append_left (x ∷ xs) ys v h =
    elim (or_cases (is_var v x) (stands xs v) h)
    [ inl e ↦ or_left (is_var v x) (stands (xs ++ ys) v) e | inr r ↦ or_right (is_var v x) (stands (xs ++ ys) v) (stands-append_left xs ys v r) ]

stands-append_right : (xs ys : List Term) (v : ℕ) → stands ys v ≡ true → stands (xs ++ ys) v ≡ true
stands-append_right [] ys v h = h
stands-append_right (x ∷ xs) ys v h = or_right (is_var v x) (stands (xs ++ ys) v) (stands-append_right xs ys v h)

-- terms are known where each of their variables is
known_terms : (known : ℕ → Bool) (ts : List Term) → ((v : ℕ) → stands ts v ≡ true → known v ≡ true) → list_all (is_known known) ts ≡ true
known_terms known [] f = refl
known_terms known (Cell c ∷ ts) f = known_terms known ts (λ v h. f v h)
known_terms known (Var u ∷ ts) f = and_from (known u) (list_all (is_known known) ts) (f u (or_left (u == u) (stands ts u) (eq-eqb u u refl))) (known_terms known ts (λ v h. f v (or_right (u == v) (stands ts v) h)))

rows_same_at : (known : ℕ → Bool) (a b : Assignment) → ((v : ℕ) → known v ≡ true → b v ≡ a v) → (atoms : List Atom) → ((v : ℕ) → stands (terms_of atoms) v ≡ true → known v ≡ true) → rows_under b atoms ≡ rows_under a atoms
rows_same_at known a b same [] f = refl
rows_same_at known a b same (atom ∷ atoms) f =
    let head = cells_same known a b same atom.terms (known_terms known atom.terms (λ v h. f v (stands-append_left atom.terms (terms_of atoms) v h))) in
    let tail = rows_same_at known a b same atoms (λ v h. f v (stands-append_right atom.terms (terms_of atoms) v h)) in cc

-- an assignment's rows at the bound variables
pub rows_same : (body : Body) (a b : Assignment) → ((v : ℕ) → is_bound body v ≡ true → b v ≡ a v) → rows_under b body.atoms ≡ rows_under a body.atoms
rows_same body a b same = rows_same_at (is_bound body) a b same body.atoms (λ v h. know_all_keeps (stands (terms_of body.atoms)) body.tests v h)

-- whether it holds is told at the bound variables
pub holds_same : (body : Body) (a b : Assignment) → AreTestsBound body → ((v : ℕ) → is_bound body v ≡ true → b v ≡ a v) → holds b body ≡ holds a body
holds_same body a b whole same =
    let rows = rows_same body a b same in
    let tests = tests_same (is_bound body) a b same body.tests whole.0 in
    ap (λ rs. list_all (λ row. list_all is_cell row) rs && list_all (passes b) body.tests) rows
    ∙ ap (λ t. list_all (λ row. list_all is_cell row) (rows_under a body.atoms) && t) tests

-- the absent rows at the bound variables
pub lacks_same : (known : ℕ → Bool) (a b : Assignment) → ((v : ℕ) → known v ≡ true → b v ≡ a v) → (absents : List Atom) (state : State) → AllByRecursion (λ (atom : Atom). list_all (is_known known) atom.terms ≡ true) absents → Lacks a absents state → Lacks b absents state
lacks_same known a b same [] state whole none = tt
lacks_same known a b same (atom ∷ absents) state whole none =
    (λ there. none.0 (subst (λ row. Has state atom.relation row) (cells_same known a b same atom.terms whole.0) there), lacks_same known a b same absents state whole.1 none.1)

-- the answers are exactly the terms' cells under the assignments that hold and stand
pub IsIn-answers_of : (terms : List Term) (body : Body) (state : State) (row : Row) → AreTestsBound body → are_bound body terms ≡ true → IsAnswer terms body state row → IsIn row (answers terms body state)
IsIn-answers_of terms body state row whole heads answer =
    let a : Assignment = answer.0 in
    let pick : List Row = rows_under a body.atoms in
    let b : Assignment = assignment_of body pick in
    let tests : list_all (passes a) body.tests ≡ true = (and_parts (list_all (λ row. list_all is_cell row) (rows_under a body.atoms)) (list_all (passes a) body.tests) answer.1).1 in
    let same : (v : ℕ) → is_bound body v ≡ true → b v ≡ a v = assignment_of_rows body a tests in
    let held : holds b body ≡ true = holds_same body a b whole same ∙ answer.1 in
    let cells : cells_of b terms ≡ row = cells_same (is_bound body) a b same terms heads ∙ answer.3 in
    subst (λ r. IsIn r (answers terms body state)) cells
    (IsIn-answers terms body state pick (IsIn-picks a body.atoms state answer.2) (rows_same body a b same) held (lacks_same (is_bound body) a b same body.absents state whole.1 answer.4))

pub IsAnswer-from_answers : (terms : List Term) (body : Body) (state : State) (row : Row) → IsIn row (answers terms body state) → IsAnswer terms body state row
IsAnswer-from_answers terms body state row h =
    let found = IsIn-answers_from terms body state row h in (
      assignment_of body found.0,
      found.3,
      Stands-from_picks (assignment_of body found.0) body.atoms state (subst (λ p. IsIn p (picks body.atoms state)) (sym found.2) found.1),
      found.4,
      found.5,
    )

-- a body has an answer exactly where an assignment holds and stands
pub some_answer-satisfied : (body : Body) (state : State) → AreTestsBound body → IsSatisfied body state → some_answer body state ≡ true
some_answer-satisfied body state whole is =
    let a : Assignment = is.0 in
    let tests : list_all (passes a) body.tests ≡ true = (and_parts (list_all (λ row. list_all is_cell row) (rows_under a body.atoms)) (list_all (passes a) body.tests) is.1).1 in
    let pick : List Row = rows_under a body.atoms in
    let b : Assignment = assignment_of body pick in
    let same : (v : ℕ) → is_bound body v ≡ true → b v ≡ a v = assignment_of_rows body a tests in
    some_answer_is body state pick (IsIn-picks a body.atoms state is.2) (rows_same body a b same) (holds_same body a b whole same ∙ is.1) (lacks_same (is_bound body) a b same body.absents state whole.1 is.3)

pub IsSatisfied-from_some : (body : Body) (state : State) → some_answer body state ≡ true → IsSatisfied body state
IsSatisfied-from_some body state h =
    let found = some_answer-true body state h in
    (assignment_of body found.0, found.3, Stands-from_picks (assignment_of body found.0) body.atoms state (subst (λ p. IsIn p (picks body.atoms state)) (sym found.2) found.1), found.4)
