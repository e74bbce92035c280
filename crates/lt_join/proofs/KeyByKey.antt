-- The loop over the keys of the first level.
use Rattle.std.specs.Prelude.{◌≡◌, ℕ, ◌+◌, ◌-◌, ◌^◌, ◌<◌, ◌≤◌, true, false, List, [], ◌∷◌, ◌++◌, map, length, slice_get, Some, ◌⊎◌}
use Rattle.std.specs.List.{AllByRecursion, flat_map}
use Rattle.std.proofs.Common.{refl, sym, ap, ◌∙◌, subst, inl, inr, arith}
use Rattle.std.proofs.lemmas.Bool.{le-ltb, cases_order}
use Rattle.std.proofs.lemmas.List.{map-append}
use Rattle.std.proofs.lemmas.Grind.{flat_map-append}
use Rattle.std.specs.Prelude.{nat_lt}
use Rattle.lt_face.specs.Lists.{IsIn}
use Rattle.lt_face.specs.State.{State}
use Rattle.lt_face.proofs.Membership.{IsIn-append_left, IsIn-append_right}
use Rattle.lt_face.proofs.RowLemmas.{each_weaker}
use Rattle.lt_model.specs.declared.normal.Term.{Term}
use Rattle.lt_model.specs.declared.normal.Body.{Body}
use Rattle.lt_model.specs.Cells.{is_cell}
use Rattle.lt_leap.specs.Common.{common_keys}
use Rattle.lt_query.specs.declared.plans.Level.{Level}
use Rattle.lt_query.specs.declared.plans.Plan.{Plan}
use Rattle.lt_query.specs.Lists.{IsRising}
use Rattle.lt_query.specs.Plan.{levels_of, term_at}
use Rattle.lt_sense.specs.declared.covering.KeptGap.{KeptGap}
use Rattle.lt_sense.specs.Kept.{Sense}
use Rattle.lt_sense.specs.Sense.{IsTight}
use Rattle.lt_join.specs.Slices.{Slice}
use Rattle.lt_join.specs.Cost.{LevelGains, iterators_at}
use Rattle.lt_join.specs.Explored.{Fits, before}
use Rattle.lt_join.specs.Holders.{AreUnder}
use Rattle.lt_join.specs.Parts.{IsBetween, AreSlicesWithin}
use Rattle.lt_join.specs.Sliced.{slice_keys, united, IsSliceOf, AreRootGaps}
use Rattle.lt_join.specs.Walked.{at, IsSkipped, StandsAt}
use Rattle.lt_join.proofs.Costs.{IsCredited}
use Rattle.lt_join.proofs.Lists.{length_append}
use Rattle.lt_join.proofs.Lists.{some_is}
use Rattle.lt_join.proofs.Repair.{All_at, All_of}
use Rattle.lt_join.proofs.Steps.{IsSkipped-grows}

-- the slices so far of a range, and where the first level stands
pub record AreSliced (body : Body) (plan : Plan) (terms : List Term) (state : State) (level : Level) (lo hi : ℕ) (root : Sense) (slices : List Slice) (key : ℕ) : Type 0 where
  pub each : AllByRecursion (IsSliceOf terms body (term_at plan.levels 0) state) slices
  pub rising : IsRising (slice_keys slices)
  pub below : AllByRecursion (λ k. k < key) (slice_keys slices)
  pub between : AllByRecursion (IsBetween lo hi) (slice_keys slices)
  pub done : (k : ℕ) → is_cell k ≡ true → lo ≤ k → k < key → IsIn k (slice_keys slices) ⊎ IsSkipped body plan root [] k
  pub common : AllByRecursion (λ k. IsIn k (common_keys (iterators_at state plan.guides level 0 (at [])))) (slice_keys slices)
  pub tight : IsTight root state
  pub gaps : AreRootGaps root
  pub hits : root.hits ≡ []
  pub at_key : key < 2 ^ 128 - 1 → (is_cell key ≡ true) × Fits level (at []) key

pub all_one_more : {X : Type 0} (P : X → Type 0) (xs : List X) (x : X) → AllByRecursion P xs → P x → AllByRecursion P (xs ++ x ∷ [])
all_one_more P [] x h k = (k, tt)
all_one_more P (y ∷ xs) x h k = (h.0, all_one_more P xs x h.1 k)

pub rising_more : (ks : List ℕ) (k : ℕ) → IsRising ks → AllByRecursion (λ j. j < k) ks → IsRising (ks ++ k ∷ [])
rising_more [] k h b = (tt, tt)
rising_more (j ∷ ks) k h b = (all_one_more (λ i. j < i) ks k h.0 b.0, rising_more ks k h.1 b.1)

before_none : (ms : List ℕ) → before 0 ms ≡ []
before_none [] = refl
before_none (m ∷ ms) = let no_m : nat_lt m 0 ≡ false = le-ltb m 0 (omega arith) in rw no_m refl

pub rooted_more : (old new : Sense) → AreRootGaps old → AreUnder [] old new → AreRootGaps new
rooted_more old new so under =
    All_of (λ (gap : KeptGap). gap.prefix ≡ []) new.gaps (λ gap there. elim (under gap there) [
      | inl before_it ↦ All_at (λ (gap : KeptGap). gap.prefix ≡ []) old.gaps gap so before_it
      | inr new_one ↦ new_one.1 ∙ ap (map (at [])) (before_none (levels_of new_one.0))
    ])

pub AreSliced-begun : (body : Body) (plan : Plan) (terms : List Term) (state : State) (level : Level) (lo hi : ℕ) (old root : Sense) (slices : List Slice) (key : ℕ) → slices ≡ [] → old ≡ record { gaps = []; hits = [] } → root.hits ≡ old.hits → AreUnder [] old root → StandsAt body plan state old root [] level lo key → AreSliced body plan terms state level lo hi root slices key
AreSliced-begun body plan terms state level lo hi old root slices key none empty same under stands = rw none (record {
  each = tt;
  rising = tt;
  below = tt;
  between = tt;
  done = λ k cell le lt. inr (stands.skipped k cell le lt);
  common = tt;
  tight = stands.tight;
  gaps = rooted_more old root (rw empty tt) under;
  hits = same ∙ ap (λ (s : Sense). s.hits) empty;
  at_key = stands.found;
})

-- one more slice, and the level went on
pub AreSliced-more : (body : Body) (plan : Plan) (terms : List Term) (state : State) (level : Level) (lo hi : ℕ) (root root' : Sense) (slices more : List Slice) (slice : Slice) (key key' : ℕ) → more ≡ slices ++ slice ∷ [] → slice.key ≡ key → IsBetween lo hi key → IsSliceOf terms body (term_at plan.levels 0) state slice → key < key' → root'.hits ≡ root.hits → AreUnder [] root root' → StandsAt body plan state root root' [] level (key + 1) key' → IsIn key (common_keys (iterators_at state plan.guides level 0 (at []))) → AreSliced body plan terms state level lo hi root slices key → AreSliced body plan terms state level lo hi root' more key'
AreSliced-more body plan terms state level lo hi root root' slices more slice key key' is of_key within is_slice rises same under stands is_common so =
    let keys : slice_keys (slices ++ slice ∷ []) ≡ slice_keys slices ++ key ∷ [] = map-append (λ (s : Slice). s.key) slices (slice ∷ []) ∙ ap (λ k. slice_keys slices ++ k ∷ []) of_key in
    rw is (record {
      each = all_one_more (IsSliceOf terms body (term_at plan.levels 0) state) slices slice so.each is_slice;
      rising = rw keys (rising_more (slice_keys slices) key so.rising so.below);
      below = rw keys (all_one_more (λ k. k < key') (slice_keys slices) key (each_weaker (λ k. k < key) (λ k. k < key') (λ k lt. omega arith) (slice_keys slices) so.below) rises);
      between = rw keys (all_one_more (IsBetween lo hi) (slice_keys slices) key so.between within);
      done = λ k cell le lt.
          elim (cases_order k key) [
            | inl e ↦ inl (rw keys (IsIn-append_right k (slice_keys slices) (key ∷ []) (inl (sym e))))
            | inr r ↦ elim r [
              | inl earlier ↦ elim (so.done k cell le earlier) [
                | inl there ↦ inl (rw keys (IsIn-append_left k (slice_keys slices) (key ∷ []) there))
                | inr skipped ↦ inr (IsSkipped-grows body plan root root' stands.grows [] k skipped)
              ]
              | inr after ↦ inr (stands.skipped k cell (omega arith) lt)
            ]
          ];
      common = rw keys (all_one_more (λ k. IsIn k (common_keys (iterators_at state plan.guides level 0 (at [])))) (slice_keys slices) key so.common is_common);
      tight = stands.tight;
      gaps = rooted_more root root' so.gaps under;
      hits = same ∙ so.hits;
      at_key = stands.found;
    })

-- the level is past the range
pub slices_within : (body : Body) (plan : Plan) (terms : List Term) (state : State) (level : Level) (lo hi : ℕ) (root : Sense) (slices : List Slice) (key : ℕ) → slice_get plan.levels 0 ≡ Some level → hi ≤ key → AreSliced body plan terms state level lo hi root slices key → AreSlicesWithin terms body plan state lo hi root slices
slices_within body plan terms state level lo hi root slices key first ended so = record {
  ascending = so.rising;
  between = so.between;
  each = so.each;
  found = λ other is. subst (λ (lv : Level). AllByRecursion (λ k. IsIn k (common_keys (iterators_at state plan.guides lv 0 (at [])))) (slice_keys slices)) (some_is level other (sym first ∙ is)) so.common;
  rooted = λ k cell within. (let below = within.1 in so.done k cell within.0 (omega arith));
  tight = so.tight;
  root_hits = so.hits;
  root_gaps = so.gaps;
}

-- ---- what is kept, counted

pub credited_begun : (atoms : ℕ) (old root : Sense) (slices : List Slice) (begun now key : ℕ) → slices ≡ [] → old ≡ record { gaps = []; hits = [] } → LevelGains atoms old root begun now key → IsCredited atoms (record { gaps = []; hits = [] }) (united root slices) begun now key
credited_begun atoms old root slices begun now key none empty level =
    let g : length (united root slices).gaps ≡ length root.gaps = rw none (let a = length_append root.gaps [] in omega arith) in
    let h : length (united root slices).hits ≡ length root.hits = rw none (let a = length_append root.hits [] in omega arith) in
    let no_gaps : length old.gaps ≡ 0 = ap (λ (s : Sense). length s.gaps) empty in
    let no_hits : length old.hits ≡ 0 = ap (λ (s : Sense). length s.hits) empty in
    let e = ap length level.hits in
    let r = level.rises in
    let a = level.gaps in
    record {
      gains = record { gaps = omega arith; hits = omega arith };
      credit = λ at_key. (let p = level.paid at_key in omega arith);
    }

length_more : {X : Type 0} (first : List X) (part : Slice → List X) (slices : List Slice) (slice : Slice) → length (first ++ flat_map part (slices ++ slice ∷ [])) ≡ length (first ++ flat_map part slices) + length (part slice)
length_more first part slices slice =
    let a = length_append first (flat_map part (slices ++ slice ∷ [])) in
    let b = length_append first (flat_map part slices) in
    let c = ap length (flat_map-append part slices (slice ∷ [])) in
    let d = length_append (flat_map part slices) (flat_map part (slice ∷ [])) in
    let e = length_append (part slice) [] in
    omega arith

pub credited_more : (atoms : ℕ) (root root' : Sense) (slices more : List Slice) (slice : Slice) (begun now after end key key' : ℕ) → more ≡ slices ++ slice ∷ [] → key < 2 ^ 128 - 1
    → length slice.sense.gaps + now ≤ after → length slice.sense.hits + now ≤ after + atoms → LevelGains atoms root root' after end key'
    → IsCredited atoms (record { gaps = []; hits = [] }) (united root slices) begun now key → IsCredited atoms (record { gaps = []; hits = [] }) (united root' more) begun end key'
credited_more atoms root root' slices more slice begun now after end key key' is at_key few_gaps few_hits level so = rw is (
    let g = length_more root'.gaps (λ (s : Slice). s.sense.gaps) slices slice in
    let g0 = length_append root.gaps (flat_map (λ (s : Slice). s.sense.gaps) slices) in
    let g1 = length_append root'.gaps (flat_map (λ (s : Slice). s.sense.gaps) slices) in
    let h = length_more root'.hits (λ (s : Slice). s.sense.hits) slices slice in
    let h0 = length_append root.hits (flat_map (λ (s : Slice). s.sense.hits) slices) in
    let h1 = length_append root'.hits (flat_map (λ (s : Slice). s.sense.hits) slices) in
    let e = ap length level.hits in
    let r = level.rises in
    let a = level.gaps in
    let b = so.gains.gaps in
    let c = so.credit at_key in
    record {
      gains = record { gaps = omega arith; hits = omega arith };
      credit = λ at_key'. (let p = level.paid at_key' in omega arith);
    })
