-- Iterators at different places of a list.
use Rattle.std.proofs.Common.{◌≡◌, ◌≢◌, ℕ, zero, suc, ◌<◌, List, [], ◌∷◌, length, get_or, set, refl, sym, ap, subst, ◌∙◌, inl, inr, arith, slice_get}
use Rattle.std.specs.List.{AllByRecursion}
use Rattle.std.proofs.lemmas.Grind.{common_steps}
use Rattle.std.proofs.lemmas.List.{get_or-map}
use Rattle.lt_face.specs.Lists.{IsIn}
use Rattle.lt_leap.specs.Ring.{keys_at}
use Rattle.lt_leap.specs.Places.{lists_at, heres_at}

pub here_in : (heres places : List ℕ) (t : ℕ) → t < length places → get_or (heres_at heres places) t 0 ≡ get_or heres (get_or places t 0) 0
here_in heres places t lt = get_or-map (λ place. get_or heres place 0) places t 0 0 lt

pub keys_in : (lists : List (List ℕ)) (places : List ℕ) (t : ℕ) → t < length places → keys_at (lists_at lists places) t ≡ keys_at lists (get_or places t 0)
keys_in lists places t lt = get_or-map (keys_at lists) places t 0 [] lt

pub is_in : (places : List ℕ) (t : ℕ) → t < length places → IsIn (get_or places t 0) places
is_in [] t lt = absurd (omega arith)
is_in (p ∷ places) zero lt = inl refl
is_in (p ∷ places) (suc t) lt = inr (is_in places t (omega arith))

pub each_within : (P : ℕ → Type 0) (places : List ℕ) (t : ℕ) → AllByRecursion P places → t < length places → P (get_or places t 0)
each_within P [] t all lt = absurd (omega arith)
each_within P (p ∷ places) zero all lt = all.0
each_within P (p ∷ places) (suc t) all lt = each_within P places t all.1 (omega arith)

pub all_each : (P : ℕ → Type 0) (xs : List ℕ) → ((i : ℕ) → i < length xs → P (get_or xs i 0)) → AllByRecursion P xs
all_each P [] each = tt
all_each P (x ∷ xs) each = (each 0 (omega arith), all_each P xs (λ i lt. each (suc i) (omega arith)))

other_here : (heres : List ℕ) (p q y : ℕ) → q ≢ p → get_or (set heres p y) q 0 ≡ get_or heres q 0
other_here heres p q y ne = grind (arith, common_steps)

same_here : (heres : List ℕ) (p y : ℕ) → p < length heres → get_or (set heres p y) p 0 ≡ y
same_here heres p y lt = grind (arith, common_steps, lt)

pub heres-other : (heres places : List ℕ) (p y : ℕ) → ((a : ℕ) → a < length places → get_or places a 0 ≢ p) → heres_at (set heres p y) places ≡ heres_at heres places
heres-other heres [] p y none = refl
heres-other heres (q ∷ places) p y none =
    ap (λ h. h ∷ heres_at (set heres p y) places) (other_here heres p q y (none 0 (omega arith))) ∙ ap (λ hs. get_or heres q 0 ∷ hs) (heres-other heres places p y (λ a lt. none (suc a) (omega arith)))

-- one of them goes elsewhere
pub heres-set : (heres places : List ℕ) (t y : ℕ) → ((a b : ℕ) → a < b → b < length places → get_or places a 0 ≢ get_or places b 0) → t < length places → get_or places t 0 < length heres
    → heres_at (set heres (get_or places t 0) y) places ≡ set (heres_at heres places) t y
heres-set heres [] t y distinct lt within = absurd (omega arith)
heres-set heres (p ∷ places) zero y distinct lt within =
    ap (λ h. h ∷ heres_at (set heres p y) places) (same_here heres p y within) ∙ ap (λ hs. y ∷ hs) (heres-other heres places p y (λ a lt same. distinct 0 (suc a) (omega arith) (omega arith) (sym same)))
heres-set heres (p ∷ places) (suc t) y distinct lt within =
    let q = get_or places t 0 in
    ap (λ h. h ∷ heres_at (set heres q y) places) (other_here heres q p y (distinct 0 (suc t) (omega arith) (omega arith)))
    ∙ ap (λ hs. get_or heres p 0 ∷ hs) (heres-set heres places t y (λ a b less in_b. distinct (suc a) (suc b) (omega arith) (omega arith)) (omega arith) within)

other_item : {I : Type 0} (iters : List I) (p i : ℕ) (iter : I) → i ≢ p → slice_get (set iters p iter) i ≡ slice_get iters i
other_item [] p i iter ne = refl
other_item (x ∷ iters) zero zero iter ne = absurd (ne refl)
other_item (x ∷ iters) zero (suc i) iter ne = refl
other_item (x ∷ iters) (suc p) zero iter ne = refl
other_item (x ∷ iters) (suc p) (suc i) iter ne = other_item iters p i iter (λ same. ne (ap suc same))

-- what stands elsewhere stays
pub others_stay : {I : Type 0} (iters : List I) (places : List ℕ) (t : ℕ) (iter : I) (i : ℕ) → t < length places → (IsIn i places → ⊥) → slice_get (set iters (get_or places t 0) iter) i ≡ slice_get iters i
others_stay iters places t iter i lt out = other_item iters (get_or places t 0) i iter (λ same. out (subst (λ p. IsIn p places) (sym same) (is_in places t lt)))
