-- Bounds of ranges: keys that rise, and then the end.
use Rattle.std.proofs.Common.{◌≡◌, ℕ, zero, suc, ◌+◌, ◌-◌, ◌^◌, ◌<◌, ◌≤◌, List, [], ◌∷◌, ◌++◌, length, slice_index, refl, ap, ◌∙◌, arith}
use Rattle.std.specs.List.{AllByRecursion}
use Rattle.lt_face.specs.Keys.{end_key}
use Rattle.lt_face.proofs.RowLemmas.{each_weaker}
use Rattle.lt_query.specs.Lists.{IsRising}
use Rattle.lt_join.specs.Parts.{AreBounds, bound_at}
use Rattle.lt_join.proofs.KeyByKey.{rising_more, all_one_more}
use Rattle.lt_join.proofs.Steps.{at_push_below, at_push_last, length_push}

-- the bounds so far, of so many rows, and the last of them
pub record AreLower (bounds : List ℕ) (rows last : ℕ) : Type 0 where
  pub rising : IsRising bounds
  pub low : AllByRecursion (λ k. k < 2 ^ 120) bounds
  pub up_to : AllByRecursion (λ k. k ≤ last) bounds
  pub first : (0 < length bounds) × (bound_at bounds 0 ≡ 0)
  pub few : length bounds ≤ rows + 1

pub lower_begun : (bounds : List ℕ) → bounds ≡ 0 ∷ [] → AreLower bounds 0 0
lower_begun bounds is = rw is (record { rising = (tt, tt); low = (omega arith, tt); up_to = (omega arith, tt); first = (omega arith, refl); few = omega arith })

pub lower_more : (bounds more : List ℕ) (rows last key : ℕ) → more ≡ bounds ++ key ∷ [] → last < key → key < 2 ^ 120 → AreLower bounds rows last → AreLower more (rows + 1) key
lower_more bounds more rows last key is above small so =
    let n = length_push bounds key in
    let f = so.few in
    rw is (record {
      rising = rising_more bounds key so.rising (each_weaker (λ k. k ≤ last) (λ k. k < key) (λ k le. omega arith) bounds so.up_to);
      low = all_one_more (λ k. k < 2 ^ 120) bounds key so.low small;
      up_to = all_one_more (λ k. k ≤ key) bounds key (each_weaker (λ k. k ≤ last) (λ k. k ≤ key) (λ k le. omega arith) bounds so.up_to) (omega arith);
      first = (omega arith, at_push_below bounds key 0 so.first.0 ∙ so.first.1);
      few = omega arith;
    })

pub lower_passed : (bounds : List ℕ) (rows last : ℕ) → AreLower bounds rows last → AreLower bounds (rows + 1) last
lower_passed bounds rows last so = record { rising = so.rising; low = so.low; up_to = so.up_to; first = so.first; few = (let f = so.few in omega arith) }

all_index : (P : ℕ → Type 0) (ks : List ℕ) (i : ℕ) → i < length ks → AllByRecursion P ks → P (slice_index ks i)
all_index P [] i lt all = absurd (omega arith)
all_index P (k ∷ ks) zero lt all = all.0
all_index P (k ∷ ks) (suc i) lt all = all_index P ks i (omega arith) all.1

rising_at : (ks : List ℕ) → IsRising ks → (i j : ℕ) → i ≤ j → j < length ks → slice_index ks i ≤ slice_index ks j
rising_at [] rising i j le lt = absurd (omega arith)
rising_at (k ∷ ks) rising zero zero le lt = omega arith
rising_at (k ∷ ks) rising zero (suc j) le lt = let above = all_index (λ m. k < m) ks j (omega arith) rising.0 in omega arith
rising_at (k ∷ ks) rising (suc i) zero le lt = absurd (omega arith)
rising_at (k ∷ ks) rising (suc i) (suc j) le lt = rising_at ks rising.1 i j (omega arith) (omega arith)

pub are_bounds : (lower bounds : List ℕ) → bounds ≡ lower ++ end_key ∷ [] → IsRising lower → AllByRecursion (λ k. k < 2 ^ 120) lower → 0 < length lower → AreBounds bounds
are_bounds lower bounds is rising low some =
    let n = length_push lower end_key in
    rw is (record {
      some = omega arith;
      rising = rising_at (lower ++ end_key ∷ []) (rising_more lower end_key rising (each_weaker (λ k. k < 2 ^ 120) (λ k. k < end_key) (λ k lt. omega arith) lower low));
      low = λ i lt. (
          let here : i < length lower = omega arith in
          let small = all_index (λ k. k < 2 ^ 120) lower i here low in
          let same = at_push_below lower end_key i here in
          omega arith
          );
    })

pub first_bound : (lower bounds : List ℕ) → bounds ≡ lower ++ end_key ∷ [] → 0 < length lower → bound_at lower 0 ≡ 0 → bound_at bounds 0 ≡ 0
first_bound lower bounds is some first = rw is (at_push_below lower end_key 0 some ∙ first)

pub last_bound : (lower bounds : List ℕ) → bounds ≡ lower ++ end_key ∷ [] → bound_at bounds (length bounds - 1) ≡ end_key
last_bound lower bounds is =
    let n : length (lower ++ end_key ∷ []) - 1 ≡ length lower = (let l = length_push lower end_key in omega arith) in
    rw is (ap (slice_index (lower ++ end_key ∷ [])) n ∙ at_push_last lower end_key)
