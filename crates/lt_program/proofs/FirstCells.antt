-- Rows by their first cells.
use Rattle.std.proofs.Common.{◌≡◌, ℕ, zero, suc, ◌≤◌, ◌<◌, true, [], ◌∷◌, length, refl, sym, ap, ◌∙◌, arith}
use Rattle.std.specs.Prelude.{take, slice_index, ◌==◌, nat_le, nat_lt}
use Rattle.std.specs.Ordering.{nat_cmp, ordering_then}
use Rattle.std.specs.declared.cmp.Ordering.{Ordering}
use Rattle.std.specs.declared.cmp.Ordering.TheVariants.{Less, Equal, Greater}
use Rattle.std.specs.FinMap.{nat_cmp-IsAntisymmetric}
use Rattle.std.proofs.lemmas.Bool.{and_parts, and_from, eqb-true, eq-eqb, leb-true, ltb-true, le-leb, lt-ltb}
use Rattle.lt_face.specs.Rows.{row_cmp}
use Rattle.lt_face.specs.State.{Row}
use Rattle.lt_sense.specs.Sense.{lies_in}

-- ---- the order of numbers

less_from : (x y : ℕ) → nat_cmp x y ≡ Less → x < y
less_from x y h = grind (arith, h)

less_of : (x y : ℕ) → x < y → nat_cmp x y ≡ Less
less_of x y h = grind (arith, h)

same_of : (x : ℕ) → nat_cmp x x ≡ Equal
same_of x = grind arith

-- ---- the first cell that differs

Differs : Row → Row → Type 0
Differs a b = (c : ℕ) × (c < length a) × (take c b ≡ take c a) × (slice_index a c < slice_index b c)

step : (x y : ℕ) (a b : Row) (o : Ordering) → nat_cmp x y ≡ o → ordering_then o (row_cmp a b) ≡ Less → (row_cmp a b ≡ Less → Differs a b) → Differs (x ∷ a) (y ∷ b)
unfolding Differs
step x y a b Less e h more = (0, omega arith, refl, less_from x y e)
step x y a b Equal e h more =
    let same : x ≡ y = nat_cmp-IsAntisymmetric x y e in
    let d = more h in (suc d.0, omega (arith, d.1), ap (λ (n : ℕ). n ∷ take d.0 b) (sym same) ∙ ap (λ (r : Row). x ∷ r) d.2, d.3)
step x y a b Greater e h more = absurd (let bad : Greater ≡ Less = h in cc)

pub differs : (a b : Row) → length a ≡ length b → row_cmp a b ≡ Less → (c : ℕ) × (c < length a) × (take c b ≡ take c a) × (slice_index a c < slice_index b c)
unfolding Differs
differs [] [] n h = absurd (let bad : Equal ≡ Less = h in cc)
differs [] (y ∷ b) n h = absurd (omega (arith, n))
differs (x ∷ a) [] n h = absurd (omega (arith, n))
differs (x ∷ a) (y ∷ b) n h = step x y a b (nat_cmp x y) refl h (λ k. differs a b (omega (arith, n)) k)

pub less_by : (a b : Row) (c : ℕ) → c < length a → c < length b → take c b ≡ take c a → slice_index a c < slice_index b c → row_cmp a b ≡ Less
less_by [] b c la lb e h = absurd (omega (arith, la))
less_by (x ∷ a) [] c la lb e h = absurd (omega (arith, lb))
less_by (x ∷ a) (y ∷ b) zero la lb e h = ap (λ o. ordering_then o (row_cmp a b)) (less_of x y h)
less_by (x ∷ a) (y ∷ b) (suc c) la lb e h =
    let same : y ≡ x = cc in
    let rest : take c b ≡ take c a = cc in
    ap (λ n. ordering_then (nat_cmp x n) (row_cmp a b)) same ∙ (ap (λ o. ordering_then o (row_cmp a b)) (same_of x) ∙ less_by a b c (omega (arith, la)) (omega (arith, lb)) rest h)

-- ---- first cells

pub fewer : (n c : ℕ) (a b : Row) → n ≤ c → take c a ≡ take c b → take n a ≡ take n b
fewer zero c a b le e = refl
fewer (suc n) zero a b le e = absurd (omega (arith, le))
fewer (suc n) (suc c) [] [] le e = refl
fewer (suc n) (suc c) [] (y ∷ b) le e = absurd (let bad = e in cc)
fewer (suc n) (suc c) (x ∷ a) [] le e = absurd (let bad = e in cc)
fewer (suc n) (suc c) (x ∷ a) (y ∷ b) le e =
    let same : x ≡ y = cc in
    let rest : take c a ≡ take c b = cc in ap (λ (m : ℕ). m ∷ take n a) same ∙ ap (λ (r : Row). y ∷ r) (fewer n c a b (omega (arith, le)) rest)

pub one_more : (c : ℕ) (a b : Row) → c < length a → c < length b → take c a ≡ take c b → slice_index a c ≡ slice_index b c → take (suc c) a ≡ take (suc c) b
one_more c [] b la lb e h = absurd (omega (arith, la))
one_more c (x ∷ a) [] la lb e h = absurd (omega (arith, lb))
one_more zero (x ∷ a) (y ∷ b) la lb e h = ap (λ (m : ℕ). m ∷ []) h
one_more (suc c) (x ∷ a) (y ∷ b) la lb e h =
    let same : x ≡ y = cc in
    let rest : take c a ≡ take c b = cc in ap (λ (m : ℕ). m ∷ take (suc c) a) same ∙ ap (λ (r : Row). y ∷ r) (one_more c a b (omega (arith, la)) (omega (arith, lb)) rest h)

pub cell_of_first : (n c : ℕ) (a b : Row) → c < n → c < length a → c < length b → take n a ≡ take n b → slice_index a c ≡ slice_index b c
cell_of_first zero c a b lt la lb e = absurd (omega (arith, lt))
cell_of_first (suc n) c [] b lt la lb e = absurd (omega (arith, la))
cell_of_first (suc n) c (x ∷ a) [] lt la lb e = absurd (omega (arith, lb))
cell_of_first (suc n) zero (x ∷ a) (y ∷ b) lt la lb e = cc
cell_of_first (suc n) (suc c) (x ∷ a) (y ∷ b) lt la lb e =
    let rest : take n a ≡ take n b = cc in cell_of_first n c a b (omega (arith, lt)) (omega (arith, la)) (omega (arith, lb)) rest

-- ---- what lies in a gap

pub lies_of : (c lo hi : ℕ) (row other : Row) → c < length row → c < length other → take c other ≡ take c row → lo ≤ slice_index other c → slice_index other c < hi → lies_in (take c row) lo hi other ≡ true
lies_of c lo hi row [] lr lo' e from below = absurd (omega (arith, lo'))
lies_of zero lo hi row (y ∷ other) lr lo' e from below = and_from (nat_le lo y) (nat_lt y hi) (le-leb lo y from) (lt-ltb y hi below)
lies_of (suc c) lo hi [] (y ∷ other) lr lo' e from below = absurd (omega (arith, lr))
lies_of (suc c) lo hi (x ∷ row) (y ∷ other) lr lo' e from below =
    let same : x ≡ y = cc in
    let rest : take c other ≡ take c row = cc in
    and_from (x == y) (lies_in (take c row) lo hi other) (eq-eqb x y same) (lies_of c lo hi row other (omega (arith, lr)) (omega (arith, lo')) rest from below)

pub lies_from : (c lo hi : ℕ) (row other : Row) → c < length row → lies_in (take c row) lo hi other ≡ true → (take c other ≡ take c row) × (lo ≤ slice_index other c) × (slice_index other c < hi)
lies_from zero lo hi row [] lr h = absurd (cc)
lies_from zero lo hi row (y ∷ other) lr h = let p = and_parts (nat_le lo y) (nat_lt y hi) h in (refl, leb-true lo y p.0, ltb-true y hi p.1)
lies_from (suc c) lo hi [] other lr h = absurd (omega (arith, lr))
lies_from (suc c) lo hi (x ∷ row) [] lr h = absurd (cc)
lies_from (suc c) lo hi (x ∷ row) (y ∷ other) lr h =
    let p = and_parts (x == y) (lies_in (take c row) lo hi other) h in
    let same : y ≡ x = sym (eqb-true x y p.0) in
    let r = lies_from c lo hi row other (omega (arith, lr)) p.1 in
    (ap (λ (m : ℕ). m ∷ take c other) same ∙ ap (λ (q : Row). x ∷ q) r.0, r.1, r.2)
