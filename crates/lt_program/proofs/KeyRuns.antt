-- The rows with one key, in their order, and the regions between them.
use Rattle.std.proofs.Common.{◌≡◌, ℕ, zero, suc, ◌<◌, List, [], ◌∷◌, length, get_or, refl, sym, ap, subst, ◌∙◌, arith, inl, inr}
use Rattle.std.specs.Prelude.{take, slice_index, ◌⊎◌}
use Rattle.std.specs.declared.cmp.Ordering.TheVariants.{Less, Equal, Greater}
use Rattle.std.proofs.lemmas.Bool.{cases_lt}
use Rattle.lt_face.specs.Lists.{IsIn}
use Rattle.lt_face.specs.Rows.{row_cmp, IsAscending}
use Rattle.lt_face.specs.State.{Row}
use Rattle.lt_face.proofs.RowLemmas.{rows_exact, greater_back, ascending_at}
use Rattle.lt_program.specs.Displacing.{Above, Below, Between, Lacking, LackingBelow}
use Rattle.lt_program.proofs.Around.{not_both, not_itself, chain}
use Rattle.lt_program.proofs.FirstCells.{differs, less_by, fewer, cell_of_first}
use Rattle.lt_program.proofs.IndexesMade.{in_place}

-- a row between two with one key has it too
pub key_between : (keys : ℕ) (low high other : Row) → length other ≡ length low → length high ≡ length low → take keys low ≡ take keys high → Between low high other → take keys other ≡ take keys low
key_between keys low high other m n same h =
    let a = differs low other (sym m) h.0 in
    elim (cases_lt a.0 keys) [
      | inl short ↦
          let as_high : slice_index low a.0 ≡ slice_index high a.0 = cell_of_first keys a.0 low high short a.1 (omega (arith, n, a.1)) same in
          absurd (not_both other high h.1
          (less_by high other a.0 (omega (arith, n, a.1)) (omega (arith, m, a.1)) (a.2 ∙ fewer a.0 keys low high (omega (arith, short)) same) (subst (λ k. k < slice_index other a.0) as_high a.3)))
      | inr past ↦ fewer keys a.0 other low past a.2
    ]

-- where an element stands
place_of : (x : Row) (xs : List Row) → IsIn x xs → (k : ℕ) × (k < length xs) × ((d : Row) → get_or xs k d ≡ x)
place_of x [] h = absurd h
place_of x (y ∷ xs) h = elim h [ inl e ↦ (0, omega arith, λ d. e) | inr k ↦ let p = place_of x xs k in (suc p.0, omega (arith, p.1), p.2) ]

module _ (keys : ℕ) (row : Row) (alike : List Row) (up : IsAscending alike) where
  -- a row of these that is at least another of them
  at_least : (i : ℕ) (at other : Row) → at ≡ get_or alike i at → IsIn other alike → row_cmp other at ≡ Less → (k : ℕ) × (k < i) × (k < length alike) × ((d : Row) → get_or alike k d ≡ other)
  at_least i at other is there less =
      let p = place_of other alike there in
      elim (cases_lt p.0 i) [
        | inl lt ↦ (p.0, lt, p.1, p.2)
        | inr le ↦
            elim (cases_lt i p.0) [
              | inl lt ↦ absurd (not_both other at less (subst (λ (r : Row). row_cmp at r ≡ Less) (p.2 at) (subst (λ (r : Row). row_cmp r (get_or alike p.0 at) ≡ Less) (sym is) (ascending_at alike i p.0 at up lt p.1))))
              | inr ge ↦
                  let same : p.0 ≡ i = omega (arith, le, ge) in
                  let one : other ≡ at = sym (p.2 at) ∙ (ap (λ k. get_or alike k at) same ∙ sym is) in
                  absurd (not_itself at (subst (λ (r : Row). row_cmp r at ≡ Less) one less))
            ]
      ]

  at_most : (i : ℕ) (at other : Row) → i < length alike → at ≡ get_or alike i at → IsIn other alike → row_cmp at other ≡ Less → (k : ℕ) × (i < k) × (k < length alike)
  at_most i at other lt is there less =
      let p = place_of other alike there in
      elim (cases_lt i p.0) [
        | inl above ↦ (p.0, above, p.1)
        | inr le ↦
            elim (cases_lt p.0 i) [
              | inl below ↦ absurd (not_both at other less (subst (λ (r : Row). row_cmp other r ≡ Less) (sym is) (subst (λ (r : Row). row_cmp r (get_or alike i at) ≡ Less) (p.2 at) (ascending_at alike p.0 i at up below lt))))
              | inr ge ↦
                  let same : p.0 ≡ i = omega (arith, le, ge) in
                  let one : other ≡ at = sym (p.2 at) ∙ (ap (λ k. get_or alike k at) same ∙ sym is) in
                  absurd (not_itself at (subst (λ (r : Row). row_cmp at r ≡ Less) one less))
            ]
      ]

  -- below the first
  pub begins_of : (first other : Row) → first ≡ get_or alike 0 first → take keys first ≡ take keys row → LackingBelow keys row alike first other → Below first keys other
  begins_of first other is key h = (h.0.0 ∙ sym key, h.1)

  pub begins_in : (first other : Row) → first ≡ get_or alike 0 first → take keys first ≡ take keys row → Below first keys other → LackingBelow keys row alike first other
  begins_in first other is key h = ((h.0 ∙ key, λ there. let k = at_least 0 first other is there h.1 in omega (arith, k.1)), h.1)

  -- from one to the next
  module _ (i : ℕ) (low high : Row) (lt : suc i < length alike) (is_low : low ≡ get_or alike i low) (is_high : high ≡ get_or alike (suc i) high) where
    pub rise : row_cmp low high ≡ Less
    rise =
        let d : Row = low in
        let step : row_cmp (get_or alike i low) (get_or alike (suc i) low) ≡ Less = ascending_at alike i (suc i) low up (omega arith) lt in
        subst (λ (r : Row). row_cmp low r ≡ Less) (same_default alike (suc i) low high lt ∙ sym is_high) (subst (λ (r : Row). row_cmp r (get_or alike (suc i) low) ≡ Less) (sym is_low) step)
      where
        same_default : (xs : List Row) (n : ℕ) (d e : Row) → n < length xs → get_or xs n d ≡ get_or xs n e
        same_default [] n d e less = absurd (omega (arith, less))
        same_default (x ∷ xs) zero d e less = refl
        same_default (x ∷ xs) (suc n) d e less = same_default xs n d e (omega (arith, less))

    pub goes_split : (other : Row) → LackingBelow keys row alike high other → LackingBelow keys row alike low other ⊎ Between low high other
    goes_split other h =
        elim (row_cmp other low) as (λ o. row_cmp other low ≡ o → LackingBelow keys row alike low other ⊎ Between low high other) [
          | Less ↦ λ e. inl (h.0, e)
          | Equal ↦ λ e. absurd (h.0.1 (subst (λ (r : Row). IsIn r alike) (sym (rows_exact other low e)) (in_place alike i low (omega (arith, lt)) is_low)))
          | Greater ↦ λ e. inr (greater_back other low e, h.1)
        ] refl

    pub goes_join : (other : Row) → length other ≡ length low → length high ≡ length low → take keys low ≡ take keys row → take keys high ≡ take keys row → LackingBelow keys row alike low other ⊎ Between low high other → LackingBelow keys row alike high other
    goes_join other m n key_low key_high (inl h) = (h.0, chain other low high h.1 rise)
    goes_join other m n key_low key_high (inr h) = (
      (
        key_between keys low high other m n (key_low ∙ sym key_high) h ∙ key_low,
        λ there. nothing_between other there h,
      ),
      h.1,
    )
      where
        nothing_between : (other : Row) → IsIn other alike → Between low high other → ⊥
        nothing_between other there h =
            let p = place_of other alike there in
            elim (cases_lt i p.0) [
              | inl past ↦
                  elim (cases_lt (suc i) p.0) [
                    | inl far ↦ not_both other high h.1 (subst (λ (r : Row). row_cmp high r ≡ Less) (p.2 high) (subst (λ (r : Row). row_cmp r (get_or alike p.0 high) ≡ Less) (sym is_high) (ascending_at alike (suc i) p.0 high up far p.1)))
                    | inr near ↦
                        let same : p.0 ≡ suc i = omega (arith, past, near) in
                        not_itself high (subst (λ (r : Row). row_cmp r high ≡ Less) (sym (p.2 high) ∙ (ap (λ n. get_or alike n high) same ∙ sym is_high)) h.1)
                  ]
              | inr le ↦
                  elim (cases_lt p.0 i) [
                    | inl far ↦ not_both low other h.0 (subst (λ (r : Row). row_cmp other r ≡ Less) (sym is_low) (subst (λ (r : Row). row_cmp r (get_or alike i low) ≡ Less) (p.2 low) (ascending_at alike p.0 i low up far (omega (arith, lt)))))
                    | inr near ↦
                        let same : p.0 ≡ i = omega (arith, le, near) in
                        not_itself low (subst (λ (r : Row). row_cmp low r ≡ Less) (sym (p.2 low) ∙ (ap (λ n. get_or alike n low) same ∙ sym is_low)) h.0)
                  ]
            ]

  -- above the last
  module _ (i : ℕ) (last : Row) (is_last : suc i ≡ length alike) (is : last ≡ get_or alike i last) where
    pub ends_split : (other : Row) → take keys last ≡ take keys row → Lacking keys row alike other → LackingBelow keys row alike last other ⊎ Above last keys other
    ends_split other key h =
        elim (row_cmp other last) as (λ o. row_cmp other last ≡ o → LackingBelow keys row alike last other ⊎ Above last keys other) [
          | Less ↦ λ e. inl (h, e)
          | Equal ↦ λ e. absurd (h.1 (subst (λ (r : Row). IsIn r alike) (sym (rows_exact other last e)) (in_place alike i last (omega (arith, is_last)) is)))
          | Greater ↦ λ e. inr (h.0 ∙ sym key, greater_back other last e)
        ] refl

    pub ends_join : (other : Row) → take keys last ≡ take keys row → LackingBelow keys row alike last other ⊎ Above last keys other → Lacking keys row alike other
    ends_join other key (inl h) = h.0
    ends_join other key (inr h) = (h.0 ∙ key, λ there. let k = at_most i last other (omega (arith, is_last)) is there h.1 in omega (arith, k.1, k.2, is_last))
