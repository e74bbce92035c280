-- Rows that one state has and another hasn't.
use Rattle.std.proofs.Common.{◌≡◌, ℕ, zero, suc, ◌<◌, ◌≤◌, Bool, true, false, not, List, [], ◌∷◌, ◌++◌, length, None, refl, sym, ap, ◌∙◌, inl, inr, arith}
use mathlib.Core.Bool.{true≢false}
use Rattle.std.specs.Prelude.{if◌then◌else◌, slice_get, unwrap_or, option_map, filter, ◌⊎◌}
use Rattle.std.specs.Ordering.{is_eq}
use Rattle.std.specs.declared.cmp.Ordering.{Ordering}
use Rattle.std.specs.declared.cmp.Ordering.TheVariants.{Less, Equal, Greater}
use Rattle.std.proofs.lemmas.List.{length-map}
use Rattle.std.proofs.lemmas.Bool.{or_left, or_right, or_cases, ne_eqb}
use Rattle.lt_face.specs.Lists.{IsIn}
use Rattle.lt_face.specs.Rows.{row_cmp, has_row}
use Rattle.lt_face.specs.State.{Row, Relation, State, rows_in, AgreeOn}
use Rattle.lt_face.proofs.RowLemmas.{rows_exact, cmp_itself}
use Rattle.lt_model.specs.Fits.{FitMarks}
use Rattle.lt_model.specs.Marks.{Marks, laid}
use Rattle.lt_model.specs.Laws.{mark_on}
use Rattle.lt_model.proofs.Laws.{laid_has}
use Rattle.lt_model.proofs.Composition.{same_widths}
use Rattle.lt_base.specs.Changed.{differ_on}

equal_is : (o : Ordering) → is_eq o ≡ true → o ≡ Equal
equal_is Less h = absurd (true≢false (sym h))
equal_is Equal h = refl
equal_is Greater h = absurd (true≢false (sym h))

pub has_from : (rows : List Row) (row : Row) → has_row rows row ≡ true → IsIn row rows
has_from [] row h = absurd (true≢false (sym h))
has_from (r ∷ rows) row h =
    elim (or_cases (is_eq (row_cmp r row)) (has_row rows row) h) [ inl e ↦ inl (rows_exact r row (equal_is (row_cmp r row) e)) | inr k ↦ inr (has_from rows row k) ]

pub has_to : (rows : List Row) (row : Row) → IsIn row rows → has_row rows row ≡ true
has_to [] row h = absurd h
has_to (r ∷ rows) row h =
    elim h [ inl e ↦ or_left (is_eq (row_cmp r row)) (has_row rows row) (ap (λ (x : Row). is_eq (row_cmp x row)) e ∙ ap is_eq (cmp_itself row)) | inr k ↦ or_right (is_eq (row_cmp r row)) (has_row rows row) (has_to rows row k) ]

pub differ : (s t : State) (relation : ℕ) (row : Row) → differ_on s t relation row ≡ true → AgreeOn s t relation row → ⊥
differ s t relation row h agree = go (has_row (rows_in s relation) row) (has_row (rows_in t relation) row) refl refl
  where
    go : (a b : Bool) → has_row (rows_in s relation) row ≡ a → has_row (rows_in t relation) row ≡ b → ⊥
    go true true e f = true≢false (sym h ∙ ap (λ x. if x then not (has_row (rows_in t relation) row) else has_row (rows_in t relation) row) e ∙ ap not f)
    go true false e f = true≢false (sym (has_to _ row (agree.0 (has_from _ row e))) ∙ f)
    go false true e f = true≢false (sym (has_to _ row (agree.1 (has_from _ row f))) ∙ e)
    go false false e f = true≢false (sym h ∙ ap (λ x. if x then not (has_row (rows_in t relation) row) else has_row (rows_in t relation) row) e ∙ f)

pub alike : (s t : State) (relation : ℕ) (row : Row) → differ_on s t relation row ≡ false → AgreeOn s t relation row
alike s t relation row h = (λ there. has_from _ row (forth (has_row (rows_in t relation) row) (has_to _ row there) refl), λ there. has_from _ row (back (has_row (rows_in s relation) row) (has_to _ row there) refl))
  where
    forth : (b : Bool) → has_row (rows_in s relation) row ≡ true → has_row (rows_in t relation) row ≡ b → has_row (rows_in t relation) row ≡ true
    forth true e f = f
    forth false e f = absurd (true≢false (sym (ap not f) ∙ (sym (ap (λ x. if x then not (has_row (rows_in t relation) row) else has_row (rows_in t relation) row) e) ∙ h)))

    back : (a : Bool) → has_row (rows_in t relation) row ≡ true → has_row (rows_in s relation) row ≡ a → has_row (rows_in s relation) row ≡ true
    back true f e = e
    back false f e = absurd (true≢false (sym f ∙ (sym (ap (λ x. if x then not (has_row (rows_in t relation) row) else has_row (rows_in t relation) row) e) ∙ h)))

-- ---- marks that needn't be laid

past_get : {X : Type 0} (xs : List X) (n : ℕ) → length xs ≤ n → slice_get xs n ≡ None
past_get [] n le = refl
past_get (x ∷ xs) zero le = absurd (omega arith)
past_get (x ∷ xs) (suc n) le = past_get xs n (omega arith)

past_rows : (state : State) (relation : ℕ) → length state ≤ relation → rows_in state relation ≡ []
past_rows state relation le = rw (past_get state relation le) refl

long_laid : (state : State) (marks : Marks) → length (laid state marks) ≡ length state
long_laid state marks =
    sym (length-map (laid state marks) (λ (r : Relation). r.width)) ∙ ap length (same_widths state marks) ∙ length-map state (λ (r : Relation). r.width)

silent_past : (state : State) (marks : Marks) (relation : ℕ) (row : Row) → FitMarks state marks → length state ≤ relation → mark_on marks relation row ≡ None
silent_past state [] relation row fit le = refl
silent_past state (m ∷ marks) relation row fit le = rw (silent_past state marks relation row fit.1 le, ne_eqb m.relation relation off) refl
  where
    off : m.relation ≡ relation → ⊥
    off e = (let none : option_map (λ (r : Relation). r.width) (slice_get state m.relation) ≡ None = ap (option_map (λ (r : Relation). r.width)) (past_get state m.relation (omega arith)) in let wide = fit.0.is_wide in cc)

pub with_marks : (state : State) (marks : Marks) (relation : ℕ) (row : Row) → FitMarks state marks → has_row (rows_in (laid state marks) relation) row ≡ unwrap_or (mark_on marks relation row) (has_row (rows_in state relation) row)
with_marks state marks relation row fit = go (nat_lt_or relation (length state))
  where
    nat_lt_or : (a b : ℕ) → (a < b) ⊎ (b ≤ a)
    nat_lt_or a zero = inr (omega arith)
    nat_lt_or zero (suc b) = inl (omega arith)
    nat_lt_or (suc a) (suc b) = elim (nat_lt_or a b) [ inl h ↦ inl (omega arith) | inr h ↦ inr (omega arith) ]

    go : (relation < length state) ⊎ (length state ≤ relation) → has_row (rows_in (laid state marks) relation) row ≡ unwrap_or (mark_on marks relation row) (has_row (rows_in state relation) row)
    go (inl lt) = laid_has state marks relation row lt
    go (inr le) =
        ap (λ (rows : List Row). has_row rows row) (past_rows (laid state marks) relation (omega (arith, long_laid state marks)))
        ∙ sym (rw (silent_past state marks relation row fit le, past_rows state relation le) refl)

-- ---- the rows kept of those handed in

pub filter_push : {X : Type 0} (p : X → Bool) (xs ys : List X) (y : X) → p y ≡ true → filter p (ys ++ y ∷ []) ≡ filter p ys ++ y ∷ []
filter_push p xs [] y h = rw h refl
filter_push p xs (z ∷ ys) y h = elim (p z) as (λ b. p z ≡ b → filter p ((z ∷ ys) ++ y ∷ []) ≡ filter p (z ∷ ys) ++ y ∷ []) [
  | true ↦ λ e. rw e (ap (λ l. z ∷ l) (filter_push p xs ys y h))
  | false ↦ λ e. rw e (filter_push p xs ys y h)
] refl

pub filter_skip : {X : Type 0} (p : X → Bool) (ys : List X) (y : X) → p y ≡ false → filter p (ys ++ y ∷ []) ≡ filter p ys
filter_skip p [] y h = rw h refl
filter_skip p (z ∷ ys) y h = elim (p z) as (λ b. p z ≡ b → filter p ((z ∷ ys) ++ y ∷ []) ≡ filter p (z ∷ ys)) [
  | true ↦ λ e. rw e (ap (λ l. z ∷ l) (filter_skip p ys y h))
  | false ↦ λ e. rw e (filter_skip p ys y h)
] refl
