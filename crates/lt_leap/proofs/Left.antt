-- How the keys that are left, and the turns before an iterator's, fall.
use Rattle.std.proofs.Common.{◌≡◌, ◌≢◌, ℕ, ◌+◌, ◌<◌, ◌≤◌, true, false, cond, List, [], ◌∷◌, ◌++◌, length, refl, sym, ap, arith, nat_le, ◌==◌, ◌||◌}
use Rattle.std.specs.Prelude.{filter}
use Rattle.std.specs.List.{list_any}
use mathlib.Core.Bool.{true≢false}
use Rattle.std.proofs.lemmas.Bool.Decides.{nat_tests}
use Rattle.lt_face.specs.Keys.{end_key, least_from, IsPlace}
use Rattle.lt_face.proofs.KeyLemmas.{le_yes, le_no}
use Rattle.lt_leap.specs.Potential.{keys_left, turns_before}

-- fewer keys are at or above a greater bound
pub left_falls_weakly : (ks : List ℕ) (a b : ℕ) → a ≤ b → keys_left ks b ≤ keys_left ks a
left_falls_weakly [] a b le = omega arith
left_falls_weakly (k ∷ ks) a b le =
    elim (nat_le b k) as (λ t. nat_le b k ≡ t → length (cond t (k ∷ filter (λ l. nat_le b l) ks) (filter (λ l. nat_le b l) ks)) ≤ keys_left (k ∷ ks) a) [
      | true ↦ λ e. let under : a ≤ k = grind (arith, nat_tests) in let rest = left_falls_weakly ks a b le in rw (le_yes a k under) (omega arith)
      | false ↦ λ e.
          let rest = left_falls_weakly ks a b le in
          elim (nat_le a k) as (λ t. keys_left ks b ≤ length (cond t (k ∷ filter (λ l. nat_le a l) ks) (filter (λ l. nat_le a l) ks))) [ true ↦ omega arith | false ↦ rest ]
    ] refl

-- a key that is there is left behind by a greater bound
pub left_falls : (ks : List ℕ) (h y : ℕ) → IsPlace ks h → h ≢ end_key → h < y → keys_left ks y < keys_left ks h
left_falls [] h y place key lt = absurd (key (sym place))
left_falls (k ∷ ks) h y place key lt =
    elim (nat_le h k) as (λ t. nat_le h k ≡ t → cond t k (least_from ks h) ≡ h → keys_left (k ∷ ks) y < length (cond t (k ∷ filter (λ l. nat_le h l) ks) (filter (λ l. nat_le h l) ks))) [
      | true ↦ λ e is.
          let past : k < y = omega arith in
          let rest = left_falls_weakly ks h y (omega arith) in
          rw (le_no y k past) (omega arith)
      | false ↦ λ e is.
          let past : k < y = grind (arith, nat_tests) in
          rw (le_no y k past) (left_falls ks h y is key lt)
    ] refl place

-- ---- turns in the ring

pub turns-push_there : (j : ℕ) (ring more : List ℕ) → list_any (λ i. i == j) ring ≡ true → turns_before j (ring ++ more) ≡ turns_before j ring
turns-push_there j [] more h = absurd (true≢false (sym h))
turns-push_there j (i ∷ is) more h =
    elim (i == j) as (λ t. (t || list_any (λ i. i == j) is) ≡ true → cond t 0 (turns_before j (is ++ more) + 1) ≡ cond t 0 (turns_before j is + 1)) [
      | true ↦ λ k. refl
      | false ↦ λ k. ap (λ n. n + 1) (turns-push_there j is more k)
    ] h

pub turns-push_itself : (j : ℕ) (ring : List ℕ) → turns_before j (ring ++ j ∷ []) ≤ length ring
turns-push_itself j [] = let same : (j == j) ≡ true = grind (arith, nat_tests) in rw same (omega arith)
turns-push_itself j (i ∷ is) =
    elim (i == j) as (λ t. cond t 0 (turns_before j (is ++ j ∷ []) + 1) ≤ length (i ∷ is)) [
      | true ↦ omega arith
      | false ↦ (let rest = turns-push_itself j is in omega arith)
    ]
