-- The regions around rows, gap by gap.
use Rattle.std.proofs.Common.{◌≡◌, ℕ, zero, suc, ◌+◌, ◌-◌, ◌≤◌, ◌<◌, true, [], ◌∷◌, length, sym, subst, ◌∙◌, arith, inl, inr}
use Rattle.std.specs.Prelude.{take, slice_index, ◌⊎◌, ◌^◌}
use Rattle.std.specs.List.{AllByRecursion}
use Rattle.std.specs.declared.cmp.Ordering.TheVariants.{Less, Equal, Greater}
use Rattle.std.proofs.lemmas.Bool.{cases_lt}
use Rattle.lt_face.specs.Rows.{row_cmp}
use Rattle.lt_face.specs.State.{Row}
use Rattle.lt_face.proofs.RowLemmas.{cmp_itself, less_back, below_all}
use Rattle.lt_sense.specs.Sense.{lies_in}
use Rattle.lt_program.specs.Displacing.{IsBeside, Above, Below, Between, AboveIn, BelowIn}
use Rattle.lt_program.proofs.FirstCells.{differs, less_by, fewer, cell_of_first, lies_of, lies_from}

-- ---- the order of rows

pub not_both : (a b : Row) → row_cmp a b ≡ Less → row_cmp b a ≡ Less → ⊥
not_both a b h k = let bad : Greater ≡ Less = sym (less_back a b h) ∙ k in cc

pub not_itself : (a : Row) → row_cmp a a ≡ Less → ⊥
not_itself a h = let bad : Equal ≡ Less = sym (cmp_itself a) ∙ h in cc

pub chain : (a b c : Row) → row_cmp a b ≡ Less → row_cmp b c ≡ Less → row_cmp a c ≡ Less
chain a b c h k = (below_all a b (c ∷ []) h (k, tt)).0

small_at : (row : Row) (c : ℕ) → AllByRecursion (λ x. x < 2 ^ 120) row → c < length row → slice_index row c < 2 ^ 120
small_at [] c h lt = absurd (omega (arith, lt))
small_at (x ∷ row) zero h lt = h.0
small_at (x ∷ row) (suc c) h lt = small_at row c h.1 (omega (arith, lt))

-- where the first cells are the same, the first that differs comes behind them
behind : (n c : ℕ) (a b : Row) → c < length a → c < length b → take n a ≡ take n b → slice_index a c < slice_index b c → n ≤ c
behind n c a b la lb e lt =
    elim (cases_lt c n) [
      | inl short ↦ let same = cell_of_first n c a b short la lb e in absurd (omega (arith, same, lt))
      | inr le ↦ le
    ]

-- ---- above a row

pub above_in : (row other : Row) (from : ℕ) → length other ≡ length row → Above row from other → AboveIn row from (length row) other
above_in row other from n h =
    let d = differs row other (sym n) h.1 in
    (d.0, behind from d.0 row other d.1 (omega (arith, n, d.1)) (sym h.0) d.3, d.1, d.2, d.3)

pub above_of : (row other : Row) (from : ℕ) → length other ≡ length row → AboveIn row from (length row) other → Above row from other
above_of row other from n h = (fewer from h.0 other row h.1 h.3, less_by row other h.0 h.2 (omega (arith, n, h.2)) h.3 h.4)

pub above_split : (row other : Row) (from i : ℕ) → i < length row → IsBeside (length row) other → AboveIn row from (suc i) other → AboveIn row from i other ⊎ (lies_in (take i row) (slice_index row i + 1) (2 ^ 128 - 1) other ≡ true)
above_split row other from i lt beside h =
    elim (cases_lt h.0 i) [
      | inl short ↦ inl (h.0, h.1, short, h.3, h.4)
      | inr le ↦
          let is : h.0 ≡ i = omega (arith, le, h.2) in
          let wide : i < length other = omega (arith, beside.0, lt) in
          let small : slice_index other i < 2 ^ 120 = small_at other i beside.1 wide in
          let up : slice_index row i < slice_index other i = subst (λ c. slice_index row c < slice_index other c) is h.4 in
          inr (lies_of i (slice_index row i + 1) (2 ^ 128 - 1) row other lt wide (subst (λ c. take c other ≡ take c row) is h.3) (omega (arith, up)) (omega (arith, small)))
    ]

pub above_join : (row other : Row) (from i : ℕ) → from ≤ i → i < length row → AboveIn row from i other ⊎ (lies_in (take i row) (slice_index row i + 1) (2 ^ 128 - 1) other ≡ true) → AboveIn row from (suc i) other
above_join row other from i le lt (inl h) = (h.0, h.1, omega (arith, h.2), h.3, h.4)
above_join row other from i le lt (inr h) = let p = lies_from i (slice_index row i + 1) (2 ^ 128 - 1) row other lt h in (i, le, omega arith, p.0, omega (arith, p.1))

-- ---- below a row

pub below_in : (row other : Row) (from : ℕ) → length other ≡ length row → Below row from other → BelowIn row from (length row) other
below_in row other from n h =
    let d = differs other row n h.1 in
    (d.0, behind from d.0 other row d.1 (omega (arith, n, d.1)) h.0 d.3, omega (arith, n, d.1), sym d.2, d.3)

pub below_of : (row other : Row) (from : ℕ) → length other ≡ length row → BelowIn row from (length row) other → Below row from other
below_of row other from n h = (fewer from h.0 other row h.1 h.3, less_by other row h.0 (omega (arith, n, h.2)) h.2 (sym h.3) h.4)

pub below_split : (row other : Row) (from i : ℕ) → i < length row → IsBeside (length row) other → BelowIn row from (suc i) other → BelowIn row from i other ⊎ (lies_in (take i row) 0 (slice_index row i) other ≡ true)
below_split row other from i lt beside h =
    elim (cases_lt h.0 i) [
      | inl short ↦ inl (h.0, h.1, short, h.3, h.4)
      | inr le ↦
          let is : h.0 ≡ i = omega (arith, le, h.2) in
          let wide : i < length other = omega (arith, beside.0, lt) in
          inr (lies_of i 0 (slice_index row i) row other lt wide (subst (λ c. take c other ≡ take c row) is h.3) (omega arith) (subst (λ c. slice_index other c < slice_index row c) is h.4))
    ]

pub below_join : (row other : Row) (from i : ℕ) → from ≤ i → i < length row → BelowIn row from i other ⊎ (lies_in (take i row) 0 (slice_index row i) other ≡ true) → BelowIn row from (suc i) other
below_join row other from i le lt (inl h) = (h.0, h.1, omega (arith, h.2), h.3, h.4)
below_join row other from i le lt (inr h) = let p = lies_from i 0 (slice_index row i) row other lt h in (i, le, omega arith, p.0, p.2)

-- ---- between two rows, of which the column is the first that differs

module _ (low high : Row) (d : ℕ) (n : length high ≡ length low) (there : d < length low) (same : take d low ≡ take d high) (rise : slice_index low d < slice_index high d) where
  pub between_split : (other : Row) → length other ≡ length low → Between low high other
      → Above low (suc d) other ⊎ ((lies_in (take d low) (slice_index low d + 1) (slice_index high d) other ≡ true) ⊎ Below high (suc d) other)
  between_split other m h =
      let a = differs low other (sym m) h.0 in
      let b = differs other high (m ∙ sym n) h.1 in
      let a_wide : a.0 < length other = omega (arith, m, a.1) in
      let d_wide : d < length other = omega (arith, m, there) in
      let d_high : d < length high = omega (arith, n, there) in
      elim (cases_lt d a.0) [
        | inl past ↦ inl (fewer (suc d) a.0 other low (omega (arith, past)) a.2, h.0)
        | inr le ↦
            elim (cases_lt a.0 d) [
              | inl short ↦
                  -- above both
                  let as_high : slice_index low a.0 ≡ slice_index high a.0 = cell_of_first d a.0 low high short a.1 (omega (arith, n, a.1)) same in
                  absurd (not_both other high h.1
                  (less_by high other a.0 (omega (arith, n, a.1)) a_wide (a.2 ∙ fewer a.0 d low high (omega (arith, short)) same) (subst (λ k. k < slice_index other a.0) as_high a.3)))
              | inr ge ↦
                  let is : a.0 ≡ d = omega (arith, le, ge) in
                  let first : take d other ≡ take d low = subst (λ c. take c other ≡ take c low) is a.2 in
                  let up : slice_index low d < slice_index other d = subst (λ c. slice_index low c < slice_index other c) is a.3 in
                  elim (cases_lt (slice_index other d) (slice_index high d)) [
                    | inl inside ↦ inr (inl (lies_of d (slice_index low d + 1) (slice_index high d) low other there d_wide first (omega (arith, up)) inside))
                    | inr out ↦
                        let b_high : b.0 < length high = omega (arith, m, n, b.1) in
                        let from : d ≤ b.0 = behind d b.0 other high b.1 b_high (first ∙ same) b.3 in
                        elim (cases_lt d b.0) [
                          | inl past ↦ inr (inr (sym (fewer (suc d) b.0 high other (omega (arith, past)) b.2), h.1))
                          | inr at ↦
                              let is_b : b.0 ≡ d = omega (arith, from, at) in
                              let under : slice_index other d < slice_index high d = subst (λ c. slice_index other c < slice_index high c) is_b b.3 in absurd (omega (arith, under, out))
                        ]
                  ]
            ]
      ]

  pub between_join : (other : Row) → length other ≡ length low → Above low (suc d) other ⊎ ((lies_in (take d low) (slice_index low d + 1) (slice_index high d) other ≡ true) ⊎ Below high (suc d) other) → Between low high other
  between_join other m (inl h) =
      let d_wide : d < length other = omega (arith, m, there) in
      let cell : slice_index other d ≡ slice_index low d = cell_of_first (suc d) d other low (omega arith) d_wide there h.0 in
      let first : take d high ≡ take d other = sym same ∙ sym (fewer d (suc d) other low (omega arith) h.0) in
      (h.1, less_by other high d d_wide (omega (arith, n, there)) first (subst (λ k. k < slice_index high d) (sym cell) rise))
  between_join other m (inr (inl h)) =
      let d_wide : d < length other = omega (arith, m, there) in
      let p = lies_from d (slice_index low d + 1) (slice_index high d) low other there h in
      (less_by low other d there d_wide p.0 (omega (arith, p.1)), less_by other high d d_wide (omega (arith, n, there)) (sym same ∙ sym p.0) p.2)
  between_join other m (inr (inr h)) =
      let d_wide : d < length other = omega (arith, m, there) in
      let d_high : d < length high = omega (arith, n, there) in
      let cell : slice_index other d ≡ slice_index high d = cell_of_first (suc d) d other high (omega arith) d_wide d_high h.0 in
      let first : take d other ≡ take d low = fewer d (suc d) other high (omega arith) h.0 ∙ sym same in
      (less_by low other d there d_wide first (subst (λ k. slice_index low d < k) (sym cell) rise), h.1)
