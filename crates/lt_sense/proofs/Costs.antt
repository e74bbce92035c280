-- What lists of ranges hold, and what looking up a row in them costs.
use Rattle.std.proofs.Common.{◌≡◌, ℕ, zero, suc, ◌+◌, ◌*◌, ◌<◌, ◌≤◌, Bool, true, false, List, [], ◌∷◌, ◌++◌, length, take, get_or, slice_set, refl, ap, ◌∙◌, subst, arith}
use Rattle.std.specs.Prelude.{nat_lt, ◌==◌, if◌then◌else◌}
use Rattle.std.proofs.lemmas.Bool.{lt-ltb, le-ltb}
use Rattle.std.proofs.Math.Nat.{add-mul}
use Rattle.lt_face.specs.declared.key.Gap.{Gap}
use Rattle.lt_sense.specs.declared.spans.Spans.{Spans}
use Rattle.lt_sense.specs.Held.{open_count, held, held_in, index_of, indexes, indexes_of}
use Rattle.lt_sense.proofs.Lies.{take_next}

-- ---- ranges that grow

pub count_le : (b : Bool) → (if b then 1 else 0) ≤ 1
count_le true = omega arith
count_le false = omega arith

pub count_some : (lo hi : ℕ) → lo < hi → ◌≡◌ {A = ℕ} (if nat_lt lo hi then 1 else 0) 1
count_some lo hi lt = rw (lt-ltb lo hi lt) refl

pub count_none : (lo hi : ℕ) → hi ≤ lo → ◌≡◌ {A = ℕ} (if nat_lt lo hi then 1 else 0) 0
count_none lo hi le = rw (le-ltb lo hi le) refl

pub open_next : (gaps : List Gap) (gap : Gap) → open_count (gaps ++ gap ∷ []) ≡ open_count gaps + (if nat_lt gap.lo gap.hi then 1 else 0)
open_next [] gap = (let e : (if nat_lt gap.lo gap.hi then 1 else 0) + 0 ≡ 0 + (if nat_lt gap.lo gap.hi then 1 else 0) = omega arith in e)
open_next (g ∷ gs) gap = (let e = open_next gs gap in omega (arith, e))

-- one becomes empty
pub open_emptied : (gaps : List Gap) (i : ℕ) (gap none : Gap) → i < length gaps → gap ≡ get_or gaps i gap → gap.lo < gap.hi → none.hi ≤ none.lo → open_count (slice_set gaps i none) + 1 ≡ open_count gaps
open_emptied [] i gap none lt there some empty = absurd (omega (arith, lt))
open_emptied (g ∷ gs) zero gap none lt there some empty =
    let a = count_none none.lo none.hi empty in
    let b = subst (λ (x : Gap). ◌≡◌ {A = ℕ} (if nat_lt x.lo x.hi then 1 else 0) 1) there (count_some gap.lo gap.hi some) in
    omega (arith, a, b)
open_emptied (g ∷ gs) (suc i) gap none lt there some empty = (let e = open_emptied gs i gap none (omega (arith, lt)) there some empty in omega (arith, e))

-- ---- a list put in its place

pub held_set : (lists : List Spans) (at : ℕ) (s t : Spans) (n : ℕ) → at < length lists → s ≡ get_or lists at s → held t ≤ held s + n → held_in (slice_set lists at t) ≤ held_in lists + n
held_set [] at s t n lt there le = absurd (omega (arith, lt))
held_set (x ∷ xs) zero s t n lt there le = (let e : held s ≡ held x = ap held there in omega (arith, e, le))
held_set (x ∷ xs) (suc i) s t n lt there le = (let e = held_set xs i s t n (omega (arith, lt)) there le in omega (arith, e))

pub indexes_set : (lists : List Spans) (at : ℕ) (s t : Spans) → at < length lists → s ≡ get_or lists at s → index_of t ≡ index_of s → indexes (slice_set lists at t) ≡ indexes lists
indexes_set [] at s t lt there same = absurd (omega (arith, lt))
indexes_set (x ∷ xs) zero s t lt there same = ap (λ i. i ∷ indexes xs) (same ∙ ap index_of there)
indexes_set (x ∷ xs) (suc i) s t lt there same = ap (λ is. index_of x ∷ is) (indexes_set xs i s t (omega (arith, lt)) there same)

pub held_next : (lists : List Spans) (s : Spans) → held_in (lists ++ s ∷ []) ≡ held_in lists + held s
held_next [] s = (let e : held s + 0 ≡ 0 + held s = omega arith in e)
held_next (x ∷ xs) s = (let e = held_next xs s in omega (arith, e))

pub indexes_next : (lists : List Spans) (s : Spans) → indexes (lists ++ s ∷ []) ≡ indexes lists ++ index_of s ∷ []
indexes_next [] s = refl
indexes_next (x ∷ xs) s = ap (λ is. index_of x ∷ is) (indexes_next xs s)

-- ---- steps

-- one list more was looked into
pub count_next : (relation : ℕ) (lists : List Spans) (at : ℕ) (s : Spans) → at < length lists → s ≡ get_or lists at s → indexes_of relation (indexes (take (at + 1) lists)) ≡ indexes_of relation (indexes (take at lists)) + (if s.relation == relation then 1 else 0)
count_next relation lists at s lt there = ap (λ xs. indexes_of relation (indexes xs)) (take_next lists at s lt there) ∙ next (take at lists)
  where
    next : (xs : List Spans) → indexes_of relation (indexes (xs ++ s ∷ [])) ≡ indexes_of relation (indexes xs) + (if s.relation == relation then 1 else 0)
    next [] = (let e : (if s.relation == relation then 1 else 0) + 0 ≡ 0 + (if s.relation == relation then 1 else 0) = omega arith in e)
    next (x ∷ xs) = (let e = next xs in omega (arith, e))

pub count_part : (relation : ℕ) (lists : List Spans) (n : ℕ) → indexes_of relation (indexes (take n lists)) ≤ indexes_of relation (indexes lists)
count_part relation lists zero = omega arith
count_part relation [] (suc n) = omega arith
count_part relation (x ∷ xs) (suc n) = (let e = count_part relation xs n in omega (arith, e))

once : (b : Bool) (d : ℕ) → (if b then 1 else 0) * d ≡ (if b then d else 0)
once true d = omega arith
once false d = omega arith

pub times_up : (a b d : ℕ) → a ≤ b → a * d ≤ b * d
times_up a b d le = (let r = split a b le in let e : b * d ≡ a * d + r.0 * d = ap (λ n. n * d) r.1 ∙ add-mul a r.0 d in omega (arith, e))
  where
    split : (a b : ℕ) → a ≤ b → (c : ℕ) × (b ≡ a + c)
    split zero b le = (b, (let e : b ≡ 0 + b = omega arith in e))
    split (suc a) zero le = absurd (omega (arith, le))
    split (suc a) (suc b) le = (let r = split a b (omega (arith, le)) in (r.0, (let q = r.1 in let e : suc b ≡ suc a + r.0 = omega (arith, q) in e)))

-- and cost no more than d where it is of the relation
pub cost_next : (relation : ℕ) (lists : List Spans) (at : ℕ) (s : Spans) (d first now next : ℕ) → at < length lists → s ≡ get_or lists at s → now ≤ first + indexes_of relation (indexes (take at lists)) * d → next ≤ now + (if s.relation == relation then d else 0)
    → next ≤ first + indexes_of relation (indexes (take (at + 1) lists)) * d
cost_next relation lists at s d first now next lt there before step =
    let k = indexes_of relation (indexes (take at lists)) in
    let e : indexes_of relation (indexes (take (at + 1) lists)) * d ≡ k * d + (if s.relation == relation then d else 0) =
    ap (λ n. n * d) (count_next relation lists at s lt there) ∙ add-mul k (if s.relation == relation then 1 else 0) d ∙ ap (λ n. k * d + n) (once (s.relation == relation) d) in
    omega (arith, e, before, step)

pub cost_all : (relation : ℕ) (lists : List Spans) (n d first now : ℕ) → now ≤ first + indexes_of relation (indexes (take n lists)) * d → now ≤ first + indexes_of relation (indexes lists) * d
cost_all relation lists n d first now le = (let e = times_up (indexes_of relation (indexes (take n lists))) (indexes_of relation (indexes lists)) d (count_part relation lists n) in omega (arith, e, le))
