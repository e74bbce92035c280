-- How many rows an edit leaves.
use Rattle.std.proofs.Common.{◌≡◌, ℕ, suc, true, false, ◌||◌, length, List, [], ◌∷◌, refl, sym, ap, arith}
use mathlib.Core.Bool.{true≢false}
use Rattle.std.specs.declared.cmp.Ordering.{Ordering}
use Rattle.std.specs.declared.cmp.Ordering.TheVariants.{Less, Equal, Greater}
use Rattle.std.specs.Ordering.{is_eq}
use Rattle.lt_face.specs.Rows.{row_cmp, IsAscending, has_row, with_row, without_row, by_order}
use Rattle.lt_face.proofs.RowLemmas.{without_row-at}

pub with-count : (rows : List (List ℕ)) (q : List ℕ) → has_row rows q ≡ false → length (with_row rows q) ≡ suc (length rows)
with-count [] q h = refl
with-count (r ∷ rs) q h =
    elim (row_cmp r q) as (λ o. (is_eq o || has_row rs q) ≡ false → length (by_order o (r ∷ with_row rs q) (r ∷ rs) (q ∷ (r ∷ rs))) ≡ suc (suc (length rs))) [
      | Less ↦ λ k. ap suc (with-count rs q k)
      | Equal ↦ λ k. absurd (true≢false k)
      | Greater ↦ λ k. refl
    ] h

pub without-count : (rows : List (List ℕ)) (q : List ℕ) → IsAscending rows → has_row rows q ≡ true → suc (length (without_row rows q)) ≡ length rows
without-count [] q up h = absurd (true≢false (sym h))
without-count (r ∷ rs) q up h = by (row_cmp r q) refl (λ k. without-count rs q up.1 k)
  where
    rest : is_eq (row_cmp r q) ≡ false → has_row rs q ≡ true
    rest e = let k : (is_eq (row_cmp r q) || has_row rs q) ≡ true = h in rw e at k

    tail : is_eq (row_cmp r q) ≡ false → suc (length (without_row rs q)) ≡ length rs → suc (length (without_row (r ∷ rs) q)) ≡ suc (length rs)
    tail e k = rw e (ap suc k)

    by : (o : Ordering) → row_cmp r q ≡ o → (has_row rs q ≡ true → suc (length (without_row rs q)) ≡ length rs) → suc (length (without_row (r ∷ rs) q)) ≡ suc (length rs)
    by Less e ih = tail (ap is_eq e) (ih (rest (ap is_eq e)))
    by Greater e ih = tail (ap is_eq e) (ih (rest (ap is_eq e)))
    by Equal e ih = ap (λ t. suc (length t)) (without_row-at (r ∷ rs) q 0 up (record { within = omega arith; here = λ d. e }))
