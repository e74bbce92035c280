-- An ascending list of rows is told by its elements.
use Rattle.std.specs.Prelude.{◌≡◌, Bool, true, false, List, [], ◌∷◌, ◌⊎◌}
use Rattle.std.specs.Ordering.{is_eq}
use Rattle.std.specs.declared.cmp.Ordering.TheVariants.{Less, Equal, Greater}
use Rattle.std.proofs.Common.{refl, sym, ap, ◌∙◌, subst, inl, inr}
use Rattle.std.proofs.lemmas.Bool.{or_cases, or_left, or_right}
use Rattle.lt_face.specs.Lists.{IsIn}
use Rattle.lt_face.specs.Rows.{row_cmp, by_order, has_row, with_row, IsAscending}
use Rattle.lt_face.specs.State.{Row}
use Rattle.lt_face.proofs.RowLemmas.{ascending-with_row}
use Rattle.lt_model.specs.Answers.{ascending}
use Rattle.lt_model.proofs.Laws.{same_is, itself}
use Rattle.lt_model.proofs.Composition.{rows_same}

pub IsIn-with_row : (q row : Row) (rows : List Row) → (row ≡ q) ⊎ IsIn q rows → IsIn q (with_row rows row)
IsIn-with_row q row [] h = h
IsIn-with_row q row (r ∷ rows) h =
    elim (row_cmp r row) as (λ o. row_cmp r row ≡ o → IsIn q (by_order o (r ∷ with_row rows row) (r ∷ rows) (row ∷ (r ∷ rows)))) [
      | Less ↦ λ e. elim h [ inl s ↦ inr (IsIn-with_row q row rows (inl s)) | inr k ↦ elim k [ inl s ↦ inl s | inr t ↦ inr (IsIn-with_row q row rows (inr t)) ] ]
      | Equal ↦ λ e. elim h [ inl s ↦ inl (same_is r row (ap is_eq e) ∙ s) | inr k ↦ k ]
      | Greater ↦ λ e. h
    ] refl

pub IsIn-with_row_from : (q row : Row) (rows : List Row) → IsIn q (with_row rows row) → (row ≡ q) ⊎ IsIn q rows
IsIn-with_row_from q row [] h = h
IsIn-with_row_from q row (r ∷ rows) h =
    elim (row_cmp r row) as (λ o. IsIn q (by_order o (r ∷ with_row rows row) (r ∷ rows) (row ∷ (r ∷ rows))) → (row ≡ q) ⊎ IsIn q (r ∷ rows)) [
      | Less ↦ λ k. elim k [ inl s ↦ inr (inl s) | inr t ↦ elim (IsIn-with_row_from q row rows t) [ inl s ↦ inl s | inr u ↦ inr (inr u) ] ]
      | Equal ↦ λ k. inr k
      | Greater ↦ λ k. k
    ] h

pub IsIn-ascending : (q : Row) (rows : List Row) → IsIn q rows → IsIn q (ascending rows)
IsIn-ascending q [] h = h
IsIn-ascending q (row ∷ rows) h = IsIn-with_row q row (ascending rows) (elim h [ inl e ↦ inl e | inr k ↦ inr (IsIn-ascending q rows k) ])

pub IsIn-ascending_from : (q : Row) (rows : List Row) → IsIn q (ascending rows) → IsIn q rows
IsIn-ascending_from q [] h = h
IsIn-ascending_from q (row ∷ rows) h = elim (IsIn-with_row_from q row (ascending rows) h) [ inl e ↦ inl e | inr k ↦ inr (IsIn-ascending_from q rows k) ]

pub IsAscending-ascending : (rows : List Row) → IsAscending (ascending rows)
IsAscending-ascending [] = tt
IsAscending-ascending (row ∷ rows) = ascending-with_row (ascending rows) row (IsAscending-ascending rows)

pub has_row-true : (rows : List Row) (q : Row) → has_row rows q ≡ true → IsIn q rows
has_row-true [] q h = absurd (cc)
has_row-true (r ∷ rows) q h = elim (or_cases (is_eq (row_cmp r q)) (has_row rows q) h) [ inl e ↦ inl (same_is r q e) | inr k ↦ inr (has_row-true rows q k) ]

pub has_row_is : (rows : List Row) (q : Row) → IsIn q rows → has_row rows q ≡ true
has_row_is [] q h = absurd h
has_row_is (r ∷ rows) q h =
    elim h [
      | inl e ↦ or_left (is_eq (row_cmp r q)) (has_row rows q) (subst (λ (x : Row). is_eq (row_cmp x q) ≡ true) (sym e) (itself q))
      | inr k ↦ or_right (is_eq (row_cmp r q)) (has_row rows q) (has_row_is rows q k)
    ]

same_truth : (a b : Bool) → (a ≡ true → b ≡ true) → (b ≡ true → a ≡ true) → a ≡ b
same_truth true b f g = sym (f refl)
same_truth false true f g = g refl
same_truth false false f g = refl

-- two ascending lists with the same rows are one
pub ascending_same : (xs ys : List Row) → IsAscending xs → IsAscending ys → ((q : Row) → IsIn q xs → IsIn q ys) → ((q : Row) → IsIn q ys → IsIn q xs) → xs ≡ ys
ascending_same xs ys a b f g =
    rows_same xs ys a b (λ q. same_truth (has_row xs q) (has_row ys q) (λ h. has_row_is ys q (f q (has_row-true xs q h))) (λ h. has_row_is xs q (g q (has_row-true ys q h))))
