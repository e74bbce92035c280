-- Slices of ranges of keys: how ranges go together, and what a range with all keys is.
use Rattle.std.specs.Prelude.{◌≡◌, ℕ, ◌+◌, ◌^◌, ◌<◌, ◌≤◌, List, [], ◌∷◌, ◌++◌, length, nat_lt}
use Rattle.std.specs.List.{AllByRecursion, flat_map}
use Rattle.std.proofs.Common.{ap, ◌∙◌, inl, inr, arith}
use Rattle.std.proofs.lemmas.Bool.{and_parts, ltb-true, cases_lt}
use Rattle.std.proofs.lemmas.List.{map-append}
use Rattle.std.proofs.lemmas.Grind.{flat_map-append}
use Rattle.lt_face.specs.Lists.{IsIn}
use Rattle.lt_face.specs.State.{State}
use Rattle.lt_face.proofs.Membership.{IsIn-append_left, IsIn-append_right}
use Rattle.lt_face.proofs.RowLemmas.{each_weaker}
use Rattle.lt_model.specs.declared.normal.Term.{Term}
use Rattle.lt_model.specs.declared.normal.Body.{Body}
use Rattle.lt_leap.specs.Common.{common_keys}
use Rattle.lt_query.specs.Lists.{IsRising}
use Rattle.lt_query.specs.Plan.{term_at}
use Rattle.lt_query.specs.declared.plans.Plan.{Plan}
use Rattle.lt_sense.specs.Kept.{Sense}
use Rattle.lt_sense.specs.declared.covering.KeptGap.{KeptGap}
use Rattle.lt_join.specs.Slices.{Slice}
use Rattle.lt_join.specs.Cost.{iterators_at}
use Rattle.lt_join.specs.Mended.{AreSlicesOn}
use Rattle.lt_join.specs.Parts.{IsBetween, IsAtMost, AreSlicesWithin}
use Rattle.lt_join.specs.Sliced.{slice_keys, united, IsSliceOf}
use Rattle.lt_join.specs.Walked.{at}
use Rattle.lt_join.proofs.Lists.{length_append}
use Rattle.lt_join.proofs.Lists.{all_append}
use Rattle.lt_join.proofs.PartLaws.{grows_one, grows_next, tight_both}
use Rattle.lt_join.proofs.Steps.{IsSkipped-grows}

-- ---- two ranges

rising_both : (mid : ℕ) (ks ms : List ℕ) → IsRising ks → IsRising ms → AllByRecursion (λ k. k < mid) ks → AllByRecursion (λ m. mid ≤ m) ms → IsRising (ks ++ ms)
rising_both mid [] ms h i below from = i
rising_both mid (k ∷ ks) ms h i below from =
    (all_append (λ m. k < m) ks ms h.0 (each_weaker (λ m. mid ≤ m) (λ m. k < m) (λ m le. (let lt = below.0 in omega arith)) ms from), rising_both mid ks ms h.1 i below.1 from)

none_both : {X : Type 0} (xs ys all : List X) → all ≡ xs ++ ys → xs ≡ [] → ys ≡ [] → all ≡ []
none_both xs ys all is none none' = is ∙ (ap (λ zs. zs ++ ys) none ∙ none')

pub slices_both : (terms : List Term) (body : Body) (plan : Plan) (state : State) (lo mid hi : ℕ) (one more all : List Slice) (root next both : Sense) → all ≡ one ++ more → both.gaps ≡ root.gaps ++ next.gaps → both.hits ≡ root.hits ++ next.hits → lo ≤ mid → mid ≤ hi
    → AreSlicesWithin terms body plan state lo mid root one → AreSlicesWithin terms body plan state mid hi next more → AreSlicesWithin terms body plan state lo hi both all
slices_both terms body plan state lo mid hi one more all root next both is g h le le' a b =
    let keys : slice_keys all ≡ slice_keys one ++ slice_keys more = ap slice_keys is ∙ map-append (λ (s : Slice). s.key) one more in
    record {
      ascending = rw keys (rising_both mid (slice_keys one) (slice_keys more) a.ascending b.ascending
          (each_weaker (IsBetween lo mid) (λ k. k < mid) (λ k within. within.1) (slice_keys one) a.between) (each_weaker (IsBetween mid hi) (λ k. mid ≤ k) (λ k within. within.0) (slice_keys more) b.between));
      between = rw keys (all_append (IsBetween lo hi) (slice_keys one) (slice_keys more)
          (each_weaker (IsBetween lo mid) (IsBetween lo hi) (λ k within. (let e = within.1 in (within.0, omega arith))) (slice_keys one) a.between)
          (each_weaker (IsBetween mid hi) (IsBetween lo hi) (λ k within. (let e = within.0 in (omega arith, within.1))) (slice_keys more) b.between));
      each = rw is (all_append (IsSliceOf terms body (term_at plan.levels 0) state) one more a.each b.each);
      found = λ level first. rw keys (all_append (λ k. IsIn k (common_keys (iterators_at state plan.guides level 0 (at [])))) (slice_keys one) (slice_keys more) (a.found level first) (b.found level first));
      rooted = λ k cell within. rw keys (elim (cases_lt k mid) [
        | inl early ↦ elim (a.rooted k cell (within.0, early)) [
          | inl there ↦ inl (IsIn-append_left k (slice_keys one) (slice_keys more) there)
          | inr skipped ↦ inr (IsSkipped-grows body plan root both (grows_one root next both g h) [] k skipped)
        ]
        | inr late ↦ elim (b.rooted k cell (late, within.1)) [
          | inl there ↦ inl (IsIn-append_right k (slice_keys one) (slice_keys more) there)
          | inr skipped ↦ inr (IsSkipped-grows body plan next both (grows_next root next both g h) [] k skipped)
        ]
      ]);
      tight = tight_both root next both state g h a.tight b.tight;
      root_hits = none_both root.hits next.hits both.hits h a.root_hits b.root_hits;
      root_gaps = rw g (all_append (λ (gap : KeptGap). gap.prefix ≡ []) root.gaps next.gaps a.root_gaps b.root_gaps);
    }

-- what the parts keep, counted
length_both : {X : Type 0} (part : Slice → List X) (first next all : List X) (one more slices : List Slice) → all ≡ first ++ next → slices ≡ one ++ more → length (all ++ flat_map part slices) ≡ length (first ++ flat_map part one) + length (next ++ flat_map part more)
length_both part first next all one more slices is are = rw (is, are) (
    let a = length_append (first ++ next) (flat_map part (one ++ more)) in
    let b = length_append first next in
    let c = ap length (flat_map-append part one more) in
    let d = length_append (flat_map part one) (flat_map part more) in
    let e = length_append first (flat_map part one) in
    let f = length_append next (flat_map part more) in
    omega arith)

pub united_both : (one more all : List Slice) (root next both : Sense) (m n : ℕ) → all ≡ one ++ more → both.gaps ≡ root.gaps ++ next.gaps → both.hits ≡ root.hits ++ next.hits → IsAtMost (united root one) m → IsAtMost (united next more) n → IsAtMost (united both all) (m + n)
united_both one more all root next both m n is g h a b =
    let gs = length_both (λ (s : Slice). s.sense.gaps) root.gaps next.gaps both.gaps one more all g is in
    let hs = length_both (λ (s : Slice). s.sense.hits) root.hits next.hits both.hits one more all h is in
    let ag = a.gaps in
    let bg = b.gaps in
    let ah = a.hits in
    let bh = b.hits in
    record { gaps = omega arith; hits = omega arith }

-- ---- a range with all keys

pub slices_whole : (terms : List Term) (body : Body) (plan : Plan) (state : State) (lo hi : ℕ) (root : Sense) (slices : List Slice) → lo ≡ 0 → 2 ^ 120 ≤ hi → AreSlicesWithin terms body plan state lo hi root slices → AreSlicesOn terms body plan state root slices
slices_whole terms body plan state lo hi root slices none high so = record {
  ascending = so.ascending;
  each = so.each;
  rooted = λ k cell.
      let small : k < 2 ^ 120 = ltb-true k (2 ^ 120) (and_parts (nat_lt 0 k) (nat_lt k (2 ^ 120)) cell).1 in
      so.rooted k cell (omega arith, omega arith);
  tight = so.tight;
  root_hits = so.root_hits;
  root_gaps = so.root_gaps;
}
