-- Rows of which each is above the last before it.
use Rattle.std.proofs.Common.{◌≡◌, ℕ, zero, suc, ◌+◌, ◌-◌, List, [], ◌∷◌, ◌++◌, length, slice_get, Some, subst, arith}
use Rattle.std.specs.List.{AllByRecursion}
use Rattle.std.specs.declared.cmp.Ordering.TheVariants.{Less}
use Rattle.lt_face.specs.Rows.{row_cmp, IsAscending}
use Rattle.lt_face.specs.State.{Row}
use Rattle.lt_face.proofs.RowLemmas.{rows_total}
use Rattle.lt_face.proofs.Walked.{got_each}

none_behind : (P : Row → Type 0) (rows : List Row) → length rows ≡ 0 → AllByRecursion P rows
none_behind P [] none = tt
none_behind P (r ∷ rows) none = absurd (omega arith)

last_at : (rows : List Row) (i : ℕ) (last q : Row) → IsAscending rows → i + 1 ≡ length rows → slice_get rows i ≡ Some last → row_cmp last q ≡ Less → AllByRecursion (λ r. row_cmp r q ≡ Less) rows
last_at [] i last q up long here less = tt
last_at (r ∷ rows) zero last q up long here less =
    let e : last ≡ r = cc in
    (subst (λ (s : Row). row_cmp s q ≡ Less) e less, none_behind (λ s. row_cmp s q ≡ Less) rows (omega arith))
last_at (r ∷ rows) (suc i) last q up long here less =
    (rows_total.trans r last q (got_each (λ s. row_cmp r s ≡ Less) rows i last up.0 here) less, last_at rows i last q up.1 (omega arith) here less)

-- what is above the last of ascending rows is above all of them
pub above_last : (rows : List Row) (last q : Row) → IsAscending rows → slice_get rows (length rows - 1) ≡ Some last → row_cmp last q ≡ Less → AllByRecursion (λ r. row_cmp r q ≡ Less) rows
above_last [] last q up here less = tt
above_last (r ∷ rows) last q up here less =
    let e : length (r ∷ rows) - 1 ≡ length rows = omega arith in
    last_at (r ∷ rows) (length rows) last q up (omega arith) (subst (λ n. slice_get (r ∷ rows) n ≡ Some last) e here) less

-- a fact of each element and of one more behind them
pub each-append : {X : Type 0} (P : X → Type 0) (xs : List X) (x : X) → AllByRecursion P xs → P x → AllByRecursion P (xs ++ x ∷ [])
each-append P [] x all one = (one, tt)
each-append P (y ∷ xs) x all one = (all.0, each-append P xs x all.1 one)

-- ascending rows with one behind them that is above all
pub ascending-append : (rows : List Row) (q : Row) → IsAscending rows → AllByRecursion (λ r. row_cmp r q ≡ Less) rows → IsAscending (rows ++ q ∷ [])
ascending-append [] q up below = (tt, tt)
ascending-append (r ∷ rows) q up below = (each-append (λ s. row_cmp r s ≡ Less) rows q up.0 below.0, ascending-append rows q up.1 below.1)
