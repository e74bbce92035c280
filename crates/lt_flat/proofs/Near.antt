-- A search for the place of a prefix and a bound.
use Rattle.std.proofs.Common.{◌≡◌, ◌≢◌, ℕ, zero, suc, ◌+◌, ◌<◌, ◌≤◌, Bool, true, false, length, get_or, List, [], ◌∷◌, ◌++◌, drop, slice_get, slice_index, nat_lt, cond, ◌==◌, refl, sym, ap, ◌∙◌, arith}
use Rattle.std.specs.List.{AllByRecursion}
use Rattle.std.specs.declared.cmp.Ordering.TheVariants.{Less, Equal, Greater}
use Rattle.std.specs.Ordering.{is_lt, ordering_then}
use Rattle.std.specs.Cmp.{tied_itself}
use Rattle.std.proofs.lemmas.Cmp.{nat_cmp_total}
use Rattle.std.proofs.lemmas.Bool.{ne_eqb}
use mathlib.Core.Bool.{true≢false}
use Rattle.lt_face.specs.Rows.{row_cmp, IsAscending, IsRowSet, IsRow, first_from}
use Rattle.lt_face.proofs.RowLemmas.{first_from-at, each_weaker}
use Rattle.lt_flat.specs.Flat.{AreBelow, AreNotBelow}
use Rattle.lt_flat.proofs.Searches.{parted, below}

drop_next : (xs : List ℕ) (i : ℕ) → i < length xs → drop i xs ≡ slice_index xs i ∷ drop (i + 1) xs
drop_next [] i lt = absurd (omega arith)
drop_next (x ∷ xs) zero lt = refl
drop_next (x ∷ xs) (suc i) lt = drop_next xs i (omega arith) ∙ (let e : suc (i + 1) ≡ suc i + 1 = omega arith in ap (λ n. slice_index xs i ∷ drop n (x ∷ xs)) e)

drop_done : (xs : List ℕ) → drop (length xs) xs ≡ []
drop_done [] = refl
drop_done (x ∷ xs) = drop_done xs

head_same : (x : ℕ) (xs ps : List ℕ) → is_lt (row_cmp (x ∷ xs) (x ∷ ps)) ≡ is_lt (row_cmp xs ps)
head_same x xs ps = ap (λ o. is_lt (ordering_then o (row_cmp xs ps))) (tied_itself nat_cmp_total x)

head_differs : (x p : ℕ) (xs ps : List ℕ) → x ≢ p → is_lt (row_cmp (x ∷ xs) (p ∷ ps)) ≡ nat_lt x p
head_differs x p xs ps differs =
    elim (nat_lt x p) as (λ t. is_lt (ordering_then (cond t Less (cond (x == p) Equal Greater)) (row_cmp xs ps)) ≡ t) [
      | true ↦ refl
      | false ↦ rw (ne_eqb x p differs) refl
    ]

none_below : (xs : List ℕ) → is_lt (row_cmp xs []) ≡ false
none_below [] = refl
none_below (x ∷ xs) = refl

head_last : (x b : ℕ) (xs : List ℕ) → is_lt (row_cmp (x ∷ xs) (b ∷ [])) ≡ nat_lt x b
head_last x b xs =
    elim (nat_lt x b) as (λ t. is_lt (ordering_then (cond t Less (cond (x == b) Equal Greater)) (row_cmp xs [])) ≡ t) [
      | true ↦ refl
      | false ↦ elim (x == b) as (λ t. is_lt (ordering_then (cond t Equal Greater) (row_cmp xs [])) ≡ false) [ true ↦ none_below xs | false ↦ refl ]
    ]

-- the comparison goes on behind cells that agree
pub step_same : (row prefix : List ℕ) (b i : ℕ) → i < length prefix → i < length row → slice_index row i ≡ slice_index prefix i
    → is_lt (row_cmp (drop i row) (drop i prefix ++ b ∷ [])) ≡ is_lt (row_cmp (drop (i + 1) row) (drop (i + 1) prefix ++ b ∷ []))
step_same row prefix b i lp lr same =
    rw (drop_next prefix i lp, drop_next row i lr, same) (head_same (slice_index prefix i) (drop (i + 1) row) (drop (i + 1) prefix ++ b ∷ []))

pub step_differs : (row prefix : List ℕ) (b i : ℕ) → i < length prefix → i < length row → slice_index row i ≢ slice_index prefix i
    → is_lt (row_cmp (drop i row) (drop i prefix ++ b ∷ [])) ≡ nat_lt (slice_index row i) (slice_index prefix i)
step_differs row prefix b i lp lr differs =
    rw (drop_next prefix i lp, drop_next row i lr) (head_differs (slice_index row i) (slice_index prefix i) (drop (i + 1) row) (drop (i + 1) prefix ++ b ∷ []) differs)

pub step_last : (row prefix : List ℕ) (b : ℕ) → length prefix < length row
    → is_lt (row_cmp (drop (length prefix) row) (drop (length prefix) prefix ++ b ∷ [])) ≡ nat_lt (slice_index row (length prefix)) b
step_last row prefix b wide =
    rw (drop_done prefix, drop_next row (length prefix) wide) (head_last (slice_index row (length prefix)) b (drop (length prefix + 1) row))

-- what stands at a place doesn't depend on the default
any_default : {X : Type 0} (xs : List X) (i : ℕ) (d e : X) → i < length xs → get_or xs i d ≡ get_or xs i e
any_default [] i d e lt = absurd (omega arith)
any_default (x ∷ xs) zero d e lt = refl
any_default (x ∷ xs) (suc i) d e lt = any_default xs i d e (omega arith)

-- what a row that is below, or isn't, says of those around it
pub below_to : (rows : List (List ℕ)) (q : List ℕ) (i : ℕ) (r : List ℕ) → IsAscending rows → i < length rows → r ≡ get_or rows i r → is_lt (row_cmp r q) ≡ true → AreBelow rows q (i + 1)
below_to rows q i r up lt at here k d le =
    parted rows q up k i d (omega arith) lt (ap (λ s. is_lt (row_cmp s q)) (any_default rows i d r lt ∙ sym at) ∙ here)

pub not_below_from : (rows : List (List ℕ)) (q : List ℕ) (i : ℕ) (r : List ℕ) → IsAscending rows → i < length rows → r ≡ get_or rows i r → is_lt (row_cmp r q) ≡ false → AreNotBelow rows q i
not_below_from rows q i r up in_range at here k d le lt = by (is_lt (row_cmp (get_or rows k d) q)) refl
  where
    by : (t : Bool) → is_lt (row_cmp (get_or rows k d) q) ≡ t → t ≡ false
    by true e = absurd (true≢false (sym (parted rows q up i k d le lt e) ∙ ap (λ s. is_lt (row_cmp s q)) (any_default rows i d r in_range ∙ sym at) ∙ here))
    by false e = refl

pub none_before : (rows : List (List ℕ)) (q : List ℕ) → AreBelow rows q 0
none_before rows q k d lt = absurd (omega arith)

pub none_behind : (rows : List (List ℕ)) (q : List ℕ) → AreNotBelow rows q (length rows)
none_behind rows q k d le lt = absurd (omega arith)

-- the place between those that are below and those that aren't
pub found_between : (rows : List (List ℕ)) (q : List ℕ) (i : ℕ) → i ≤ length rows → AreBelow rows q i → AreNotBelow rows q i → first_from rows q ≡ slice_get rows i
found_between rows q i within before after =
    first_from-at rows q i (record { within = within; before = λ k d lt. below (row_cmp (get_or rows k d) q) (before k d lt); after = after })

-- all rows of a set are wider than what is shorter than its width
pub all_wider : (width n : ℕ) (rows : List (List ℕ)) → n < width → IsRowSet width rows → AllByRecursion (λ row. n < length row) rows
all_wider width n rows lt set = each_weaker (IsRow width) (λ row. n < length row) (λ row is. let e = is.is_wide in omega arith) rows set.each
