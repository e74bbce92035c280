-- Rows that were sorted, and each kept once, are the ascending ones.
use Rattle.std.proofs.Common.{◌≡◌, ℕ, Bool, true, false, cond, ◌||◌, List, [], ◌∷◌, Some, None, refl, sym, ap, ◌∙◌, lit<, arith, ◌&&◌}
use Rattle.std.specs.Prelude.{unwrap_or, nat_eq}
use Rattle.std.specs.List.{dedup, dedup_from}
use Rattle.std.specs.List.Retain.{IsFiltered, DiffersFromLast}
use Rattle.std.specs.List.Sorted.{IsPermutation, IsSorted, IsStrictlySortedBy}
use Rattle.std.specs.Cmp.Lexicographic.{pointwise}
use Rattle.std.specs.Ordering.{is_eq, eq_by_cmp, nat_cmp, ordering_then}
use Rattle.std.specs.declared.cmp.Ordering.{Ordering}
use Rattle.std.specs.declared.cmp.Ordering.TheVariants.{Less, Equal, Greater}
use Rattle.std.proofs.lemmas.Bool.Decides.{nat_tests}
use Rattle.std.proofs.lemmas.List.Filters.{dedup_is}
use Rattle.std.proofs.lemmas.List.Kept.{IsStrictlySortedBy-dedup}
use Rattle.std.proofs.lemmas.List.Sorted.{list_any-IsPermutation}
use Rattle.lt_face.specs.Rows.{row_cmp, has_row, with_row, IsAscending}
use Rattle.lt_face.specs.State.{Row}
use Rattle.lt_face.proofs.RowLemmas.{rows_total}
use Rattle.lt_query.proofs.Ascending.{IsAscending-ascending}
use Rattle.lt_model.specs.Answers.{ascending}
use Rattle.lt_model.proofs.Laws.{laid_has, same_is}
use Rattle.lt_model.proofs.Composition.{rows_same}

twice : (a b : Bool) → (a || b) ≡ (a || (a || b))
twice true b = refl
twice false b = refl

told : (a b : Bool) → unwrap_or (cond a (Some true) None) b ≡ (a || b)
told true b = refl
told false b = refl

pub has-with_row : (rows : List Row) (q r : Row) → has_row (with_row rows q) r ≡ (is_eq (row_cmp q r) || has_row rows r)
has-with_row rows q r =
    laid_has (record { width = 0; rows = rows } ∷ []) (record { relation = 0; row = q; plus = true } ∷ []) 0 r (lit< tt)
    ∙ told (is_eq (row_cmp q r)) (has_row rows r)

pub has-ascending : (rows : List Row) (r : Row) → has_row (ascending rows) r ≡ has_row rows r
has-ascending [] r = refl
has-ascending (q ∷ rows) r = has-with_row (ascending rows) q r ∙ ap (λ b. is_eq (row_cmp q r) || b) (has-ascending rows r)

strictly : (rows : List Row) → IsStrictlySortedBy row_cmp rows → IsAscending rows
unfolding IsStrictlySortedBy
strictly [] h = tt
strictly (r ∷ rows) h = (h.0, strictly rows h.1)

pub eq_nat : (x y : ℕ) → nat_eq x y ≡ is_eq (nat_cmp x y)
eq_nat x y = grind (arith, nat_tests)

pub eq_then : (o p : Ordering) → is_eq (ordering_then o p) ≡ (is_eq o && is_eq p)
eq_then Less p = refl
eq_then Equal p = refl
eq_then Greater p = refl

-- rows tie where their cells are equal
pub rows_tie : (x y : Row) → pointwise nat_eq x y ≡ eq_by_cmp row_cmp x y
rows_tie [] [] = refl
rows_tie [] (y ∷ ys) = refl
rows_tie (x ∷ xs) [] = refl
rows_tie (x ∷ xs) (y ∷ ys) =
    ap (λ b. b && pointwise nat_eq xs ys) (eq_nat x y)
    ∙ ap (λ b. is_eq (nat_cmp x y) && b) (rows_tie xs ys)
    ∙ sym (eq_then (nat_cmp x y) (row_cmp xs ys))

module _ (E : Row → Row → Bool) (ties : (x y : Row) → E x y ≡ eq_by_cmp row_cmp x y) where
  has-dedup_from : (x : Row) (xs : List Row) (r : Row) → has_row (dedup_from E x xs) r ≡ has_row (x ∷ xs) r
  has-dedup_from x [] r = refl
  has-dedup_from x (y ∷ xs) r =
      elim (E y x) as (λ b. E y x ≡ b → has_row (cond b (dedup_from E x xs) (x ∷ dedup_from E y xs)) r ≡ (is_eq (row_cmp x r) || (is_eq (row_cmp y r) || has_row xs r))) [
        | true ↦ λ e.
            let same : y ≡ x = same_is y x (sym (ties y x) ∙ e) in
            has-dedup_from x xs r ∙ twice (is_eq (row_cmp x r)) (has_row xs r) ∙ ap (λ (q : Row). is_eq (row_cmp x r) || (is_eq (row_cmp q r) || has_row xs r)) (sym same)
        | false ↦ λ e. ap (λ b. is_eq (row_cmp x r) || b) (has-dedup_from y xs r)
      ] refl

  pub sorted_is : (xs ys zs : List Row) → IsPermutation xs ys → IsSorted row_cmp ys → IsFiltered (DiffersFromLast E) [] ys zs → zs ≡ ascending xs
  sorted_is xs ys zs moved sorted kept =
      dedup_is E ys zs kept
      ∙ rows_same (dedup E ys) (ascending xs) (strictly (dedup E ys) (IsStrictlySortedBy-dedup rows_total ties ys sorted)) (IsAscending-ascending xs)
      (λ r. has-dedup ys r ∙ (sym (list_any-IsPermutation (λ q. is_eq (row_cmp q r)) xs ys moved) ∙ sym (has-ascending xs r)))
    where
      has-dedup : (ys : List Row) (r : Row) → has_row (dedup E ys) r ≡ has_row ys r
      has-dedup [] r = refl
      has-dedup (y ∷ ys) r = has-dedup_from y ys r
