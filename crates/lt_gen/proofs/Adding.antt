-- Sums and counts of which one element more is taken in.
use Rattle.std.proofs.Common.{◌≡◌, ◌∙◌, ℕ, ◌+◌, ◌<◌, ◌≤◌, List, [], ◌∷◌, ◌++◌, length, take, get_or, refl, ap, arith}
use Rattle.std.specs.Prelude.{Bool, not, ◌&&◌, ℤ, pos, ◌+ℤ◌, map, fold, filter, filter_map, slice_index, Option, Some, None}
use Rattle.std.proofs.lemmas.Int.{ints}
use Rattle.std.specs.List.{cons_option}
use Rattle.std.proofs.lemmas.List.{take_more}
use Rattle.std.proofs.lemmas.List.Filters.{length-filter_both}
use Rattle.lt_face.specs.State.{Row}
use Rattle.lt_model.specs.Cells.{int_or_none, cell_int}
use Rattle.lt_gen.specs.Answered.{Answer, done_count, is_buy, is_done, refused_count}
use Rattle.lt_gen.specs.Summaries.{column_sum, int_or_zero}

-- ---- sums of columns

-- the sum of what the rows have, from a number on
abbrev sum_on : (Row → Option ℕ) → ℤ → List Row → ℤ
sum_on value from rows = fold (λ sum int. sum +ℤ int) from (map cell_int (filter_map value rows))

zero_more : (from : ℤ) → from ≡ from +ℤ pos 0
zero_more from = omega (arith, ints)

sum-push : (value : Row → Option ℕ) (from : ℤ) (rows : List Row) (row : Row) → sum_on value from (rows ++ row ∷ []) ≡ sum_on value from rows +ℤ int_or_zero (value row)
sum-push value from [] row = elim (value row) as (λ v. fold (λ sum int. sum +ℤ int) from (map cell_int (cons_option v [])) ≡ from +ℤ int_or_zero v) [ None ↦ zero_more from | Some cell ↦ refl ]
sum-push value from (first ∷ rows) row =
    elim (value first) as (λ v. fold (λ sum int. sum +ℤ int) from (map cell_int (cons_option v (filter_map value (rows ++ row ∷ [])))) ≡ fold (λ sum int. sum +ℤ int) from (map cell_int (cons_option v (filter_map value rows))) +ℤ int_or_zero (value row)) [
      | None ↦ sum-push value from rows row
      | Some cell ↦ sum-push value (from +ℤ cell_int cell) rows row
    ]

pub column-more : (column : ℕ) (rows : List Row) (i : ℕ) (row : Row) → i < length rows → get_or rows i row ≡ row
    → column_sum column (take (i + 1) rows) ≡ column_sum column (take i rows) +ℤ int_or_zero (int_or_none (slice_index row column))
column-more column rows i row within is =
    ap (column_sum column) (take_more rows i row within ∙ ap (λ (r : Row). take i rows ++ r ∷ []) is) ∙ sum-push (λ (r : Row). int_or_none (slice_index r column)) (pos 0) (take i rows) row

-- ---- counts

few-filter : {X : Type 0} (p : X → Bool) (xs : List X) → length (filter p xs) ≤ length xs
few-filter p xs = let both = length-filter_both p (λ x. not (p x)) (λ x. refl) xs in omega (arith, both)

pub few_done : (answers : List Answer) → done_count answers ≤ length answers
few_done answers = few-filter (λ (a : Answer). is_buy a && is_done a.1) answers

pub few_refused : (answers : List Answer) → refused_count answers ≤ length answers
few_refused answers = few-filter (λ (a : Answer). is_buy a && not (is_done a.1)) answers
