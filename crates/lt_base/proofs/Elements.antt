-- Which rows a set has with one more, and without one.
use Rattle.std.specs.Prelude.{◌≡◌, ◌≢◌, ◌⊎◌, true, false, not, List, [], ◌∷◌}
use Rattle.std.proofs.Common.{refl, sym, ap, ◌∙◌, subst, inl, inr, cond}
use Rattle.std.specs.Ordering.{is_eq}
use Rattle.std.specs.declared.cmp.Ordering.{Ordering}
use Rattle.std.specs.declared.cmp.Ordering.TheVariants.{Less, Equal, Greater}
use Rattle.lt_face.specs.Lists.{IsIn}
use Rattle.lt_face.specs.Rows.{row_cmp, by_order, with_row, without_row}
use Rattle.lt_face.specs.State.{Row}
use Rattle.lt_face.proofs.RowLemmas.{rows_exact, cmp_itself}

pub with_new : (rows : List Row) (q : Row) → IsIn q (with_row rows q)
with_new [] q = inl refl
with_new (r ∷ rows) q =
    elim (row_cmp r q) as (λ o. row_cmp r q ≡ o → IsIn q (by_order o (r ∷ with_row rows q) (r ∷ rows) (q ∷ (r ∷ rows)))) [
      | Less ↦ λ e. inr (with_new rows q)
      | Equal ↦ λ e. inl (rows_exact r q e)
      | Greater ↦ λ e. inl refl
    ] refl

pub with_old : (rows : List Row) (q x : Row) → IsIn x rows → IsIn x (with_row rows q)
with_old [] q x h = absurd h
with_old (r ∷ rows) q x h =
    elim (row_cmp r q) as (λ o. IsIn x (by_order o (r ∷ with_row rows q) (r ∷ rows) (q ∷ (r ∷ rows)))) [
      | Less ↦ elim h [ inl e ↦ inl e | inr k ↦ inr (with_old rows q x k) ]
      | Equal ↦ h
      | Greater ↦ inr h
    ]

pub with_cases : (rows : List Row) (q x : Row) → IsIn x (with_row rows q) → (q ≡ x) ⊎ IsIn x rows
with_cases [] q x h = elim h [ inl e ↦ inl e | inr k ↦ absurd k ]
with_cases (r ∷ rows) q x h =
    elim (row_cmp r q) as (λ o. IsIn x (by_order o (r ∷ with_row rows q) (r ∷ rows) (q ∷ (r ∷ rows))) → (q ≡ x) ⊎ IsIn x (r ∷ rows)) [
      | Less ↦ λ k. elim k [ inl e ↦ inr (inl e) | inr m ↦ elim (with_cases rows q x m) [ inl e ↦ inl e | inr n ↦ inr (inr n) ] ]
      | Equal ↦ λ k. inr k
      | Greater ↦ λ k. k
    ] h

same_row : (r q : Row) (o : Ordering) → row_cmp r q ≡ o → is_eq o ≡ true → r ≡ q
same_row r q Less e h = cc
same_row r q Equal e h = rows_exact r q e
same_row r q Greater e h = cc

not_itself : (q : Row) → is_eq (row_cmp q q) ≡ true
not_itself q = ap is_eq (cmp_itself q)

pub without_cases : (rows : List Row) (q x : Row) → IsIn x (without_row rows q) → (q ≢ x) × IsIn x rows
without_cases [] q x h = absurd h
without_cases (r ∷ rows) q x h =
    elim (is_eq (row_cmp r q)) as (λ b. is_eq (row_cmp r q) ≡ b → IsIn x (cond (not b) (r ∷ without_row rows q) (without_row rows q)) → (q ≢ x) × IsIn x (r ∷ rows)) [
      | true ↦ λ e k. let m = without_cases rows q x k in (m.0, inr m.1)
      | false ↦ λ e k. elim k [
        | inl is ↦ (λ same. let f : is_eq (row_cmp q q) ≡ false = subst (λ z. is_eq (row_cmp z q) ≡ false) (is ∙ sym same) e in let t = not_itself q in cc, inl is)
        | inr m ↦ let n = without_cases rows q x m in (n.0, inr n.1)
      ]
    ] refl h

pub without_other : (rows : List Row) (q x : Row) → q ≢ x → IsIn x rows → IsIn x (without_row rows q)
without_other [] q x ne h = absurd h
without_other (r ∷ rows) q x ne h =
    elim (is_eq (row_cmp r q)) as (λ b. is_eq (row_cmp r q) ≡ b → IsIn x (cond (not b) (r ∷ without_row rows q) (without_row rows q))) [
      | true ↦ λ e. elim h [ inl is ↦ absurd (ne (sym (same_row r q (row_cmp r q) refl e) ∙ is)) | inr k ↦ without_other rows q x ne k ]
      | false ↦ λ e. elim h [ inl is ↦ inl is | inr k ↦ inr (without_other rows q x ne k) ]
    ] refl
