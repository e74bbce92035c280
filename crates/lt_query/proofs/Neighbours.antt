-- Of rows that ascend, two with one key stand side by side.
use Rattle.std.proofs.Common.{◌≡◌, ℕ, zero, suc, ◌≤◌, ◌<◌, true, false, List, [], ◌∷◌, length, refl, sym, ap, subst, ◌∙◌, arith, inl, inr}
use Rattle.std.specs.List.{AllByRecursion, list_any}
use Rattle.std.specs.Prelude.{take, not, slice_index_or, ⊤}
use Rattle.std.specs.Ordering.{nat_cmp, ordering_then, ordering_reverse}
use Rattle.std.specs.declared.cmp.Ordering.{Ordering}
use Rattle.std.specs.declared.cmp.Ordering.TheVariants.{Less, Equal, Greater}
use Rattle.std.specs.FinMap.{nat_cmp-IsAntisymmetric}
use Rattle.std.proofs.lemmas.Cmp.{nat_cmp_total}
use Rattle.std.proofs.lemmas.Bool.{and_parts, true≢false}
use Rattle.lt_face.specs.Lists.{IsIn}
use Rattle.lt_face.specs.Rows.{row_cmp, IsAscending}
use Rattle.lt_face.specs.State.{Row}
use Rattle.lt_model.specs.Effect.{same_row, contend, has_clash}
use Rattle.lt_model.proofs.Laws.{same_is, itself}
use Rattle.lt_model.specs.Keyed.{HasOneForKey}
use Rattle.lt_query.proofs.Picks.{any-true}
use Rattle.lt_query.proofs.Wide.{each_in}

-- ---- what lies between two rows with one key has it too

not_less : (o : Ordering) → o ≡ Less → o ≡ Greater → ⊥
not_less o h k = let e : Less ≡ Greater = sym h ∙ k in cc

first_cells : (x z : ℕ) (o p q : Ordering) → nat_cmp x z ≡ o → ordering_then o p ≡ Less → ordering_then (nat_cmp z x) q ≡ Less → (x ≡ z) × (p ≡ Less) × (q ≡ Less)
first_cells x z Less p q e h k =
    let back : nat_cmp z x ≡ Greater = nat_cmp_total.antisymm z x ∙ ap ordering_reverse e in
    absurd (not_less (ordering_then (nat_cmp z x) q) k (ap (λ o. ordering_then o q) back))
first_cells x z Equal p q e h k =
    let same : x ≡ z = nat_cmp-IsAntisymmetric x z e in
    let back : nat_cmp z x ≡ Equal = subst (λ n. nat_cmp n x ≡ Equal) same (subst (λ n. nat_cmp x n ≡ Equal) (sym same) e) in
    (same, h, sym (ap (λ o. ordering_then o q) back) ∙ k)
first_cells x z Greater p q e h k = absurd (let bad : Greater ≡ Less = h in cc)

heads_of : (x y : ℕ) (xs ys : Row) → x ∷ xs ≡ y ∷ ys → x ≡ y
heads_of x y xs ys e = cc

tails_of : (x y : ℕ) (xs ys : Row) → x ∷ xs ≡ y ∷ ys → xs ≡ ys
tails_of x y xs ys e = cc

between : (n : ℕ) (a b c : Row) → n ≤ length a → n ≤ length b → row_cmp a c ≡ Less → row_cmp c b ≡ Less → take n a ≡ take n b → take n a ≡ take n c
between zero a b c la lb h k e = refl
between (suc n) [] b c la lb h k e = absurd (omega (arith, la))
between (suc n) (x ∷ a) [] c la lb h k e = absurd (omega (arith, lb))
between (suc n) (x ∷ a) (y ∷ b) [] la lb h k e = absurd (let bad : Greater ≡ Less = h in cc)
between (suc n) (x ∷ a) (y ∷ b) (z ∷ c) la lb h k e =
    let same : x ≡ y = heads_of x y (take n a) (take n b) e in
    let here : ordering_then (nat_cmp z x) (row_cmp c b) ≡ Less = subst (λ m. ordering_then (nat_cmp z m) (row_cmp c b) ≡ Less) (sym same) k in
    let parts = first_cells x z (nat_cmp x z) (row_cmp a c) (row_cmp c b) refl h here in
    let rest : take n a ≡ take n c = between n a b c (omega (arith, la)) (omega (arith, lb)) parts.1 parts.2 (tails_of x y (take n a) (take n b) e) in
    ap (λ (m : ℕ). m ∷ take n a) parts.0 ∙ ap (λ (r : Row). z ∷ r) rest

-- ---- rows of which no two that stand side by side have one key

abbrev pub AreApart : ℕ → List Row → Type 0
AreApart keys [] = ⊤
AreApart keys (r ∷ []) = ⊤
AreApart keys (r ∷ s ∷ rows) = (same_row (take keys r) (take keys s) ≡ false) × AreApart keys (s ∷ rows)

pub apart_at : (keys : ℕ) (rows : List Row) (d : Row) → ((j : ℕ) → suc j < length rows → same_row (take keys (slice_index_or rows j d)) (take keys (slice_index_or rows (suc j) d)) ≡ false) → AreApart keys rows
apart_at keys [] d h = tt
apart_at keys (r ∷ []) d h = tt
apart_at keys (r ∷ s ∷ rows) d h = (h 0 (omega arith), apart_at keys (s ∷ rows) d (λ j less. h (suc j) (omega (arith, less))))

abbrev AreLong : ℕ → List Row → Type 0
AreLong keys rows = AllByRecursion (λ row. keys ≤ length row) rows

first_apart : (keys : ℕ) (r b : Row) (rows : List Row) → AreLong keys (r ∷ rows) → IsAscending (r ∷ rows) → AreApart keys (r ∷ rows) → IsIn b rows → take keys r ≡ take keys b → ⊥
first_apart keys r b [] long up apart there same = there
first_apart keys r b (s ∷ rows) long up apart there same =
    let differ : take keys r ≡ take keys s → ⊥ = λ e. true≢false (sym (subst (λ (q : Row). same_row (take keys r) q ≡ true) e (itself (take keys r))) ∙ apart.0) in
    elim there [
      | inl e ↦ differ (same ∙ ap (take keys) (sym e))
      | inr k ↦ differ (between keys r b s long.0 (each_in (λ q. keys ≤ length q) b rows long.1.1 k) up.0.0 (each_in (λ q. row_cmp s q ≡ Less) b rows up.1.0 k) same)
    ]

pub one_for_key : (keys : ℕ) (rows : List Row) → AreLong keys rows → IsAscending rows → AreApart keys rows → HasOneForKey keys rows
one_for_key keys [] long up apart a b in_a in_b same = absurd in_a
one_for_key keys (r ∷ rows) long up apart a b in_a in_b same =
    elim in_a [
      | inl ea ↦ elim in_b [ inl eb ↦ sym ea ∙ eb | inr kb ↦ absurd (first_apart keys r b rows long up apart kb (ap (take keys) ea ∙ same)) ]
      | inr ka ↦
          elim in_b [
            | inl eb ↦ absurd (first_apart keys r a rows long up apart ka (ap (take keys) eb ∙ sym same))
            | inr kb ↦ one_for_key keys rows long.1 up.1 (rest rows apart) a b ka kb same
          ]
    ]
  where
    rest : (rows : List Row) → AreApart keys (r ∷ rows) → AreApart keys rows
    rest [] h = tt
    rest (s ∷ rows) h = h.1

-- where rows with one key are the same nothing clashes
pub clashes_not : (keys : ℕ) (rows : List Row) → HasOneForKey keys rows → has_clash keys rows ≡ false
clashes_not keys rows one =
    elim (has_clash keys rows) as (λ t. has_clash keys rows ≡ t → t ≡ false) [
      | true ↦ λ e.
          let a = any-true (λ x. list_any (contend keys x) rows) rows e in
          let b = any-true (contend keys a.0) rows a.2 in
          let parts = and_parts (same_row (take keys a.0) (take keys b.0)) (not (same_row a.0 b.0)) b.2 in
          let same : a.0 ≡ b.0 = one a.0 b.0 a.1 b.1 (same_is (take keys a.0) (take keys b.0) parts.0) in
          absurd (true≢false (sym parts.1 ∙ ap not (subst (λ (r : Row). same_row a.0 r ≡ true) same (itself a.0))))
      | false ↦ λ e. refl
    ] refl
