-- Row by row of its atoms, a body's answers are those over all picks.
use Rattle.std.proofs.Common.{◌≡◌, ◌≢◌, ℕ, Bool, true, false, cond, ◌&&◌, List, [], ◌∷◌, ◌++◌, Some, None, refl, sym, ap, ◌∙◌, subst, inl, inr}
use Rattle.std.specs.Prelude.{◌==◌, is_some, option_and_then, flat_map}
use Rattle.std.specs.Ordering.{is_eq, nat_cmp}
use Rattle.std.proofs.lemmas.Bool.{eq-eqb}
use Rattle.std.proofs.lemmas.Bool.Decides.{eqb_tells}
use Rattle.lt_face.specs.Rows.{row_cmp}
use Rattle.lt_face.specs.State.{Row, State}
use Rattle.lt_model.specs.declared.normal.Term.{Term}
use Rattle.lt_model.specs.declared.normal.Term.TheVariants.{Var, Cell}
use Rattle.lt_model.specs.declared.normal.Atom.{Atom}
use Rattle.lt_model.specs.declared.normal.Test.{Test}
use Rattle.lt_model.specs.Answers.{Assignment, Values, cell_of, cells_of, rows_under, or_else, value_at, terms_of, give_all, rows_eq}
use Rattle.lt_join.specs.Values.{assigned, with_value}
use Rattle.lt_reference.specs.Values.{with_cell, accept, matched}
use Rattle.lt_reference.specs.Walk.{bears, begun, assignment_from, fits_from, answer_from}
use Rattle.lt_answers.proofs.SortedRows.{eq_nat, eq_then}
use Rattle.lt_program.proofs.BoundCells.{assigned_has}

-- ---- values and the assignment

Tells : Values → Assignment → Type 0
Tells values a = (u y : ℕ) → values u ≡ Some y → a u ≡ y

assigned_tells : (values : Values) (tests : List Test) → Tells values (assigned (give_all values tests))
unfolding Tells
assigned_tells values tests u y e = assigned_has values tests u y e

-- ---- one row

some_is : (f g : Values) → Some f ≡ Some g → f ≡ g
some_is f g e = cc

other : (v u : ℕ) → v ≢ u → (v == u) ≡ false
other v u h = elim (eqb_tells v u) [ inl e ↦ absurd (h e.1) | inr e ↦ e.0 ]

module _ (atoms : List Atom) (pick : List Row) where
  -- the values, and the cells where the terms and then the atoms stand
  abbrev begun_at : Values → List Term → Row → Values
  begun_at values ts xs u = or_else (values u) (value_at (ts ++ terms_of atoms) (xs ++ flat_map (λ row. row) pick) u)

  first_place : (values : Values) (v x : ℕ) (ts : List Term) (xs : Row) (u : ℕ) → values v ≡ None → begun_at values (Var v ∷ ts) (x ∷ xs) u ≡ begun_at (with_value values v x) ts xs u
  first_place values v x ts xs u none = elim (eqb_tells u v) [
    | inl e ↦ (let back : (v == u) ≡ true = eq-eqb v u (sym e.1) in let gone : values u ≡ None = ap values e.1 ∙ none in rw (gone, back, e.0) refl)
    | inr e ↦ (let off : (v == u) ≡ false = other v u (λ same. e.1 (sym same)) in rw (off, e.0) refl)
  ]

  later_place : (values : Values) (v x y : ℕ) (ts : List Term) (xs : Row) (u : ℕ) → values v ≡ Some y → begun_at values (Var v ∷ ts) (x ∷ xs) u ≡ begun_at values ts xs u
  later_place values v x y ts xs u some = elim (eqb_tells u v) [
    | inl e ↦ (let there : values u ≡ Some y = ap values e.1 ∙ some in rw there refl)
    | inr e ↦ (let off : (v == u) ≡ false = other v u (λ same. e.1 (sym same)) in rw off refl)
  ]

  begun_step : (values next : Values) (t : Term) (x : ℕ) (ts : List Term) (xs : Row) → accept values t x ≡ Some next → begun_at values (t ∷ ts) (x ∷ xs) ≡ begun_at next ts xs
  begun_step values next (Cell c) x ts xs e =
      elim (c == x) as (λ b. cond b (Some values) None ≡ Some next → begun_at values ts xs ≡ begun_at next ts xs) [
        | true ↦ λ k. ap (λ w. begun_at w ts xs) (some_is values next k)
        | false ↦ λ k. cc
      ] e
  begun_step values next (Var v) x ts xs e =
      elim (values v) as (λ o. values v ≡ o → with_cell values v x o ≡ Some next → begun_at values (Var v ∷ ts) (x ∷ xs) ≡ begun_at next ts xs) [
        | None ↦ λ none k.
            let each = λ (u : ℕ). first_place values v x ts xs u none in
            let first : begun_at values (Var v ∷ ts) (x ∷ xs) ≡ begun_at (with_value values v x) ts xs = λ i. λ u. each u i in
            first ∙ ap (λ w. begun_at w ts xs) (some_is (with_value values v x) next k)
        | Some y ↦ λ some k.
            let each = λ (u : ℕ). later_place values v x y ts xs u some in
            let later : begun_at values (Var v ∷ ts) (x ∷ xs) ≡ begun_at values ts xs = λ i. λ u. each u i in
            later ∙ elim (y == x) as (λ b. cond b (Some values) None ≡ Some next → begun_at values ts xs ≡ begun_at next ts xs)
            [ true ↦ λ h. ap (λ w. begun_at w ts xs) (some_is values next h) | false ↦ λ h. cc ] k
      ] refl e

  begun_met : (values next : Values) (ts : List Term) (xs : Row) → matched values ts xs ≡ Some next → begun_at values ts xs ≡ begun next atoms pick
  begun_met values next [] [] e = ap (λ w. begun w atoms pick) (some_is values next e)
  begun_met values next [] (x ∷ xs) e = cc
  begun_met values next (t ∷ ts) [] e = cc
  begun_met values next (t ∷ ts) (x ∷ xs) e =
      elim (accept values t x) as (λ o. accept values t x ≡ o → option_and_then (λ w. matched w ts xs) o ≡ Some next → begun_at values (t ∷ ts) (x ∷ xs) ≡ begun next atoms pick)
      [ None ↦ λ k h. cc | Some w ↦ λ k h. begun_step values w t x ts xs k ∙ begun_met w next ts xs h ] refl e

  cell_tells : (values : Values) (a : Assignment) (t : Term) (x : ℕ) (ts : List Term) (xs : Row) → Tells (begun_at values (t ∷ ts) (x ∷ xs)) a → is_eq (nat_cmp (cell_of a t) x) ≡ is_some (accept values t x)
  unfolding Tells
  cell_tells values a (Cell c) x ts xs tells = sym (eq_nat c x) ∙ elim (c == x) as (λ b. b ≡ is_some {T = Values} (cond b (Some values) None)) [ true ↦ refl | false ↦ refl ]
  cell_tells values a (Var v) x ts xs tells =
      elim (values v) as (λ o. values v ≡ o → is_eq (nat_cmp (a v) x) ≡ is_some (with_cell values v x o)) [
        | None ↦ λ none.
            let here : begun_at values (Var v ∷ ts) (x ∷ xs) v ≡ Some x = (let itself : (v == v) ≡ true = eq-eqb v v refl in rw (none, itself) refl) in
            ap (λ n. is_eq (nat_cmp n x)) (tells v x here) ∙ (sym (eq_nat x x) ∙ eq-eqb x x refl)
        | Some y ↦ λ some.
            let here : begun_at values (Var v ∷ ts) (x ∷ xs) v ≡ Some y = rw some refl in
            ap (λ n. is_eq (nat_cmp n x)) (tells v y here) ∙ (sym (eq_nat y x) ∙ elim (y == x) as (λ b. b ≡ is_some {T = Values} (cond b (Some values) None)) [ true ↦ refl | false ↦ refl ])
      ] refl

  row_tells : (values : Values) (a : Assignment) (ts : List Term) (xs : Row) → Tells (begun_at values ts xs) a → is_eq (row_cmp (cells_of a ts) xs) ≡ is_some (matched values ts xs)
  row_tells values a [] [] tells = refl
  row_tells values a [] (x ∷ xs) tells = refl
  row_tells values a (t ∷ ts) [] tells = refl
  row_tells values a (t ∷ ts) (x ∷ xs) tells =
      eq_then (nat_cmp (cell_of a t) x) (row_cmp (cells_of a ts) xs)
      ∙ (ap (λ b. b && is_eq (row_cmp (cells_of a ts) xs)) (cell_tells values a t x ts xs tells)
      ∙ elim (accept values t x) as (λ o. accept values t x ≡ o → (is_some o && is_eq (row_cmp (cells_of a ts) xs)) ≡ is_some (option_and_then (λ next. matched next ts xs) o)) [
        | None ↦ λ e. refl
        | Some next ↦ λ e. row_tells next a ts xs (subst (λ b. Tells b a) (begun_step values next t x ts xs e) tells)
      ] refl)

  module _ (terms : List Term) (tests : List Test) (absents : List Atom) (state : State) (values : Values) (atom : Atom) (row : Row) where
    told_first : is_eq (row_cmp (cells_of (assignment_from values (atom ∷ atoms) tests (row ∷ pick)) atom.terms) row) ≡ is_some (matched values atom.terms row)
    told_first = row_tells values (assignment_from values (atom ∷ atoms) tests (row ∷ pick)) atom.terms row (assigned_tells (begun_at values atom.terms row) tests)

    rest_of : Bool → Bool
    rest_of b =
        let a : Assignment = assignment_from values (atom ∷ atoms) tests (row ∷ pick) in
        (b && rows_eq (rows_under a atoms) pick) && bears a tests absents state

    -- a row that can't match leads to no answer
    pub fits_missed : matched values atom.terms row ≡ None → fits_from values (atom ∷ atoms) tests absents state (row ∷ pick) ≡ false
    unfolding rest_of
    fits_missed e = ap rest_of (told_first ∙ ap is_some e)

    -- one that matches leads to those of the values with its cells
    pub fits_met : (next : Values) → matched values atom.terms row ≡ Some next → fits_from values (atom ∷ atoms) tests absents state (row ∷ pick) ≡ fits_from next atoms tests absents state pick
    unfolding rest_of
    fits_met next e =
        ap rest_of (told_first ∙ ap is_some e)
        ∙ ap (λ (w : Values). rows_eq (rows_under (assigned (give_all w tests)) atoms) pick && bears (assigned (give_all w tests)) tests absents state) (begun_met values next atom.terms row e)

    pub answer_missed : matched values atom.terms row ≡ None → answer_from terms values (atom ∷ atoms) tests absents state (row ∷ pick) ≡ None
    answer_missed e = ap (λ b. cond b (Some (cells_of (assignment_from values (atom ∷ atoms) tests (row ∷ pick)) terms)) None) (fits_missed e)

    pub answer_met : (next : Values) → matched values atom.terms row ≡ Some next → answer_from terms values (atom ∷ atoms) tests absents state (row ∷ pick) ≡ answer_from terms next atoms tests absents state pick
    answer_met next e =
        ap (λ b. cond b (Some (cells_of (assignment_from values (atom ∷ atoms) tests (row ∷ pick)) terms)) None) (fits_met next e)
        ∙ ap (λ (w : Values). cond (fits_from next atoms tests absents state pick) (Some (cells_of (assigned (give_all w tests)) terms)) None) (begun_met values next atom.terms row e)
