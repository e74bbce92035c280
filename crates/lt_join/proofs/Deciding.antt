-- How many levels decide the cells of terms.
use Rattle.std.specs.Prelude.{◌≡◌, ℕ, ◌+◌, ◌<◌, ◌≤◌, ◌⊎◌, List, [], ◌∷◌, ◌++◌, length, take}
use Rattle.std.proofs.Common.{sym, subst, arith, inl, inr, get_or}
use Rattle.lt_model.specs.declared.normal.Term.{Term}
use Rattle.lt_model.specs.Answers.{Assignment, cell_of, cells_of}
use Rattle.lt_query.specs.declared.plans.Level.{Level}
use Rattle.lt_join.specs.Way.{AreDecidedBy}
use Rattle.lt_join.proofs.KnownLists.{get_same, take_more}

-- more levels decide it, too
decided_more : (levels : List Level) (n m : ℕ) (ts : List Term) → n ≤ m → AreDecidedBy levels n ts → AreDecidedBy levels m ts
decided_more levels n m ts le by a b agree = by a b (λ l lt. agree l (omega (arith, lt, le)))

-- terms one after another
cells_both : (a b : Assignment) (ts : List Term) (t : Term) → cells_of a ts ≡ cells_of b ts → cells_of a (t ∷ []) ≡ cells_of b (t ∷ []) → cells_of a (ts ++ t ∷ []) ≡ cells_of b (ts ++ t ∷ [])
cells_both a b [] t many one = one
cells_both a b (s ∷ ts) t many one =
    let head : cell_of a s ≡ cell_of b s = let k = many in cc in
    let tail : cells_of a ts ≡ cells_of b ts = let k = many in cc in
    let rest = cells_both a b ts t tail one in cc

-- what decides both, where it isn't all levels
decided_next : (levels : List Level) (n m most : ℕ) (ts : List Term) (t : Term) → n ≤ most → m ≤ most → most ≤ length levels → (n ≡ length levels) ⊎ AreDecidedBy levels n ts → (m ≡ length levels) ⊎ AreDecidedBy levels m (t ∷ []) → (most ≡ length levels) ⊎ AreDecidedBy levels most (ts ++ t ∷ [])
decided_next levels n m most ts t le_n le_m within many one =
    elim many [
      | inl all ↦ inl (omega (arith, le_n, within, all))
      | inr by ↦ elim one [
        | inl all ↦ inl (omega (arith, le_m, within, all))
        | inr next ↦ inr (λ a b agree. cells_both a b ts t (decided_more levels n most ts le_n by a b agree) (decided_more levels m most (t ∷ []) le_m next a b agree))
      ]
    ]

-- the same, where the terms are gone through
pub decided_step : (levels : List Level) (n m most : ℕ) (terms : List Term) (i : ℕ) (d : Term) → i < length terms → n ≤ most → m ≤ most → most ≤ length levels
    → (n ≡ length levels) ⊎ AreDecidedBy levels n (take i terms) → (m ≡ length levels) ⊎ AreDecidedBy levels m (get_or terms i d ∷ [])
    → (most ≤ length levels) × ((most ≡ length levels) ⊎ AreDecidedBy levels most (take (i + 1) terms))
decided_step levels n m most terms i d lt le_n le_m within many one =
    let more : take (i + 1) terms ≡ take i terms ++ get_or terms i d ∷ [] = take_more terms i (get_or terms i d) lt (get_same terms i d (get_or terms i d) lt) in
    (within, subst (λ (ts : List Term). (most ≡ length levels) ⊎ AreDecidedBy levels most ts) (sym more) (decided_next levels n m most (take i terms) (get_or terms i d) le_n le_m within many one))
