-- Rows that marks are on.
use Rattle.std.proofs.Common.{◌≡◌, ℕ, Bool, true, false, ◌&&◌, List, [], ◌∷◌, map, Option, Some, None, refl, sym, ap, ◌∙◌, inl, inr}
use mathlib.Core.Bool.{true≢false}
use Rattle.std.specs.Prelude.{◌||◌, ◌==◌, if◌then◌else◌, is_some}
use Rattle.std.specs.Ordering.{is_eq}
use Rattle.std.specs.declared.cmp.Ordering.{Ordering}
use Rattle.std.specs.declared.cmp.Ordering.TheVariants.{Less, Equal, Greater}
use Rattle.std.proofs.lemmas.Bool.{or_left, or_right, or_cases, and_parts, and_from, eqb-true, eq-eqb}
use Rattle.lt_face.specs.Lists.{IsIn}
use Rattle.lt_face.specs.Rows.{row_cmp}
use Rattle.lt_face.specs.State.{Row}
use Rattle.lt_face.proofs.RowLemmas.{rows_exact, cmp_itself}
use Rattle.lt_model.specs.declared.mark.Mark.{Mark}
use Rattle.lt_model.specs.Marks.{Marks, AreMarks, and_then}
use Rattle.lt_model.specs.Laws.{later, mark_on}
use Rattle.lt_model.proofs.Composition.{mark_on-and_then}
use Rattle.lt_restate.specs.Walked.{mark_of, is_named}

equal_is : (o : Ordering) → is_eq o ≡ true → o ≡ Equal
equal_is Less h = absurd (true≢false (sym h))
equal_is Equal h = refl
equal_is Greater h = absurd (true≢false (sym h))

some_later : (x y : Option Bool) → is_some (later x y) ≡ (is_some x || is_some y)
some_later None y = refl
some_later (Some p) y = refl

named_after : (a b : Marks) (relation : ℕ) (row : Row) → AreMarks a → is_named (and_then a b) relation row ≡ (is_named b relation row || is_named a relation row)
named_after a b relation row up = ap is_some (mark_on-and_then a b relation row up) ∙ some_later (mark_on b relation row) (mark_on a relation row)

named_second : (a b : Marks) (relation : ℕ) (row : Row) → AreMarks a → is_named b relation row ≡ true → is_named (and_then a b) relation row ≡ true
named_second a b relation row up h = named_after a b relation row up ∙ or_left (is_named b relation row) (is_named a relation row) h

-- whether one mark is on the row
abbrev is_on : Mark → ℕ → Row → Bool
is_on m relation row = m.relation == relation && is_eq (row_cmp m.row row)

some_if : (b : Bool) (plus : Bool) → is_some (if b then Some plus else None) ≡ b
some_if true plus = refl
some_if false plus = refl

named_cons : (m : Mark) (marks : Marks) (relation : ℕ) (row : Row) → is_named (m ∷ marks) relation row ≡ (is_named marks relation row || is_on m relation row)
named_cons m marks relation row =
    some_later (mark_on marks relation row) (if is_on m relation row then Some m.plus else None)
    ∙ ap (λ b. is_named marks relation row || b) (some_if (is_on m relation row) m.plus)

-- each row that was handed in is named
pub named_in : (named : List (ℕ × Row)) (relation : ℕ) (row : Row) → IsIn (relation, row) named → is_named (map mark_of named) relation row ≡ true
named_in [] relation row h = absurd h
named_in (x ∷ named) relation row h =
    named_cons (mark_of x) (map mark_of named) relation row
    ∙ elim h [
      | inl e ↦ or_right (is_named (map mark_of named) relation row) (is_on (mark_of x) relation row) (here e)
      | inr k ↦ or_left (is_named (map mark_of named) relation row) (is_on (mark_of x) relation row) (named_in named relation row k)
    ]
  where
    here : x ≡ (relation, row) → is_on (mark_of x) relation row ≡ true
    here e =
        let a : x.0 ≡ relation = ap (λ (y : ℕ × Row). y.0) e in
        let b : x.1 ≡ row = ap (λ (y : ℕ × Row). y.1) e in
        and_from (x.0 == relation) (is_eq (row_cmp x.1 row)) (eq-eqb x.0 relation a) (ap (λ (r : Row). is_eq (row_cmp r row)) b ∙ ap is_eq (cmp_itself row))

pub all_named : (named : List (ℕ × Row)) (relation : ℕ) (row : Row) → IsIn (relation, row) named → is_named (and_then [] (map mark_of named)) relation row ≡ true
all_named named relation row h = named_second [] (map mark_of named) relation row tt (named_in named relation row h)

-- a named row is some mark's
pub mark_there : (marks : Marks) (relation : ℕ) (row : Row) → is_named marks relation row ≡ true → (m : Mark) × IsIn m marks × (m.relation ≡ relation) × (m.row ≡ row)
mark_there [] relation row h = absurd (true≢false (sym h))
mark_there (m ∷ marks) relation row h =
    elim (or_cases (is_named marks relation row) (is_on m relation row) (sym (named_cons m marks relation row) ∙ h)) [
      | inl k ↦ let found = mark_there marks relation row k in (found.0, inr found.1, found.2, found.3)
      | inr k ↦ let parts = and_parts (m.relation == relation) (is_eq (row_cmp m.row row)) k in (m, inl refl, eqb-true m.relation relation parts.0, rows_exact m.row row (equal_is (row_cmp m.row row) parts.1))
    ]
