-- The touched keys, gathered.
use Rattle.std.specs.Prelude.{◌≡◌, ℕ, ◌+◌, ◌<◌, ◌≤◌, true, false, ◌==◌, nat_eq, List, [], ◌∷◌, ◌++◌, length, take, ◌⊎◌}
use Rattle.std.specs.List.{dedup, dedup_from, list_any}
use Rattle.std.specs.List.Retain.{IsFiltered, DiffersFromLast}
use Rattle.std.specs.List.Sorted.{IsPermutation, IsSorted, IsStrictlySortedBy}
use Rattle.std.specs.Ordering.{nat_cmp}
use Rattle.std.specs.declared.cmp.Ordering.TheVariants.{Less, Equal, Greater}
use Rattle.std.proofs.Common.{refl, sym, ◌∙◌, subst, inl, inr, cond, get_or}
use Rattle.std.proofs.lemmas.Bool.{or_left, eqb-true, eq-eqb, cases_order}
use Rattle.std.specs.Cmp.{nat_cmp_is}
use Rattle.std.proofs.lemmas.Cmp.{nat_cmp_total}
use Rattle.std.proofs.lemmas.List.Filters.{dedup_is}
use Rattle.std.proofs.lemmas.List.Kept.{IsStrictlySortedBy-dedup}
use Rattle.std.proofs.lemmas.List.Sorted.{list_any-IsPermutation}
use Rattle.lt_face.specs.Lists.{IsIn}
use Rattle.lt_face.specs.State.{Row, State}
use Rattle.lt_face.proofs.Membership.{IsIn-append_left, IsIn-append_right, IsIn-append_cases}
use Rattle.lt_face.proofs.RowLemmas.{each_weaker}
use Rattle.lt_query.specs.Lists.{IsRising}
use Rattle.lt_sense.specs.declared.covering.KeptGap.{KeptGap}
use Rattle.lt_sense.specs.Kept.{Sense}
use Rattle.lt_sense.specs.declared.covering.Hit.{Hit}
use Rattle.lt_sense.specs.Sense.{covers, gap_covers, hit_covers}
use Rattle.lt_join.specs.Slices.{Slice}
use Rattle.lt_join.specs.Mended.{Touches, HaveTouched}
use Rattle.lt_sense.specs.ByKey.{GainsJust}
use Rattle.lt_join.specs.MendedKeys.{AreTouched, NameCovered, HaveSame}
use Rattle.lt_join.specs.Sliced.{united}
use Rattle.lt_join.proofs.Spotted.{covered_root, covered_slice}
use Rattle.lt_join.proofs.Lists.{take_more, take_all}
use Rattle.lt_join.proofs.Repair.{list_any_from, list_any_of}
use Rattle.lt_answers.proofs.SortedRows.{eq_nat}

-- ---- what comes

pub GainsJust-none : (tells : ℕ → Type 0) (xs : List ℕ) → ((k : ℕ) → tells k → ⊥) → GainsJust tells xs xs
GainsJust-none tells xs none = record { stay = λ k h. h; come = λ k h. absurd (none k h); no_other = λ k h. inl h }

module _ {X : Type 0} (P : X → ℕ → Type 0) where
  -- it is so of one of them
  abbrev pub OfOne : List X → ℕ → Type 0
  OfOne xs k = (x : X) × IsIn x xs × P x k

  pub GainsJust-begun : (old : List ℕ) → GainsJust (OfOne []) old old
  GainsJust-begun old = GainsJust-none (OfOne []) old (λ k h. absurd h.1)

  of_more : (xs : List X) (i : ℕ) (x : X) (k : ℕ) → take (i + 1) xs ≡ take i xs ++ x ∷ [] → OfOne (take (i + 1) xs) k → OfOne (take i xs) k ⊎ P x k
  of_more xs i x k e h =
      elim (IsIn-append_cases h.0 (take i xs) (x ∷ []) (subst (IsIn h.0) e h.1)) [
        | inl old ↦ inl (h.0, old, h.2)
        | inr new ↦ elim new [ inl q ↦ inr (subst (λ y. P y k) (sym q) h.2) | inr none ↦ absurd none ]
      ]

  -- one element more of a loop
  pub GainsJust-more : (xs : List X) (i : ℕ) (x : X) (old now new : List ℕ) → i < length xs → x ≡ get_or xs i x → GainsJust (OfOne (take i xs)) old now → GainsJust (P x) now new → GainsJust (OfOne (take (i + 1) xs)) old new
  GainsJust-more xs i x old now new lt is first later =
      let e = take_more xs i x lt is in
      record {
        stay = λ k h. later.stay k (first.stay k h);
        come = λ k h. elim (of_more xs i x k e h) [ inl p ↦ later.stay k (first.come k p) | inr q ↦ later.come k q ];
        no_other = λ k h. elim (later.no_other k h) [
          | inl there ↦ elim (first.no_other k there) [
            | inl o ↦ inl o
            | inr p ↦ inr (p.0, subst (IsIn p.0) (sym e) (IsIn-append_left p.0 (take i xs) (x ∷ []) p.1), p.2)
          ]
          | inr q ↦ inr (x, subst (IsIn x) (sym e) (IsIn-append_right x (take i xs) (x ∷ []) (inl refl)), q)
        ];
      }

  pub GainsJust-all : (xs : List X) (i : ℕ) (old new : List ℕ) → length xs ≤ i → GainsJust (OfOne (take i xs)) old new → GainsJust (OfOne xs) old new
  GainsJust-all xs i old new all h = subst (λ ys. GainsJust (OfOne ys) old new) (take_all xs i all) h

-- ---- in order, each once

moved : (xs ys : List ℕ) (k : ℕ) → IsPermutation xs ys → IsIn k xs → IsIn k ys
moved xs ys k order h =
    let found = list_any_from (λ q. q == k) ys (sym (list_any-IsPermutation (λ q. q == k) xs ys order) ∙ list_any_of (λ q. q == k) k xs h (eq-eqb k k refl)) in
    subst (λ q. IsIn q ys) (eqb-true found.0 k found.2) found.1

moved_back : (xs ys : List ℕ) (k : ℕ) → IsPermutation xs ys → IsIn k ys → IsIn k xs
moved_back xs ys k order h =
    let found = list_any_from (λ q. q == k) xs (list_any-IsPermutation (λ q. q == k) xs ys order ∙ list_any_of (λ q. q == k) k ys h (eq-eqb k k refl)) in
    subst (λ q. IsIn q xs) (eqb-true found.0 k found.2) found.1

once : (x : ℕ) (xs : List ℕ) (k : ℕ) → IsIn k (x ∷ xs) → IsIn k (dedup_from nat_eq x xs)
once x [] k h = h
once x (y ∷ xs) k h =
    elim (nat_eq y x) as (λ b. nat_eq y x ≡ b → IsIn k (cond b (dedup_from nat_eq x xs) (x ∷ dedup_from nat_eq y xs))) [
      | true ↦ λ e. elim h [ inl q ↦ once x xs k (inl q) | inr r ↦ elim r [ inl q ↦ once x xs k (inl (sym (eqb-true y x e) ∙ q)) | inr s ↦ once x xs k (inr s) ] ]
      | false ↦ λ e. elim h [ inl q ↦ inl q | inr r ↦ inr (once y xs k r) ]
    ] refl

once_back : (x : ℕ) (xs : List ℕ) (k : ℕ) → IsIn k (dedup_from nat_eq x xs) → IsIn k (x ∷ xs)
once_back x [] k h = h
once_back x (y ∷ xs) k h =
    elim (nat_eq y x) as (λ b. nat_eq y x ≡ b → IsIn k (cond b (dedup_from nat_eq x xs) (x ∷ dedup_from nat_eq y xs)) → IsIn k (x ∷ y ∷ xs)) [
      | true ↦ λ e j. elim (once_back x xs k j) [ inl q ↦ inl q | inr r ↦ inr (inr r) ]
      | false ↦ λ e j. elim j [ inl q ↦ inl q | inr r ↦ inr (once_back y xs k r) ]
    ] refl h

all_once : (xs : List ℕ) → HaveSame xs (dedup nat_eq xs)
all_once [] = record { there = λ k h. h; back = λ k h. h }
all_once (x ∷ xs) = record { there = once x xs; back = once_back x xs }

below_of : (x y : ℕ) → nat_cmp x y ≡ Less → x < y
below_of x y e =
    elim (cases_order x y) [
      | inl same ↦ let tie : Equal ≡ nat_cmp x y = nat_cmp_is x y Equal same in cc
      | inr r ↦ elim r [
        | inl lt ↦ lt
        | inr gt ↦ let above : Greater ≡ nat_cmp x y = nat_cmp_is x y Greater gt in cc
      ]
    ]

rising_of : (xs : List ℕ) → IsStrictlySortedBy nat_cmp xs → IsRising xs
unfolding IsStrictlySortedBy
rising_of [] h = tt
rising_of (x ∷ xs) h = (each_weaker (λ y. nat_cmp x y ≡ Less) (λ y. x < y) (λ y e. below_of x y e) xs h.0, rising_of xs h.1)

pub sorted_rises : (ys zs : List ℕ) → IsSorted nat_cmp ys → IsFiltered (DiffersFromLast nat_eq) [] ys zs → IsRising zs
sorted_rises ys zs sorted kept = subst IsRising (sym (dedup_is nat_eq ys zs kept)) (rising_of (dedup nat_eq ys) (IsStrictlySortedBy-dedup nat_cmp_total eq_nat ys sorted))

pub sorted_same : (xs ys zs : List ℕ) → IsPermutation xs ys → IsFiltered (DiffersFromLast nat_eq) [] ys zs → HaveSame xs zs
sorted_same xs ys zs order kept = subst (HaveSame xs) (sym (dedup_is nat_eq ys zs kept)) (record {
  there = λ k h. (all_once ys).there k (moved xs ys k order h);
  back = λ k h. moved_back xs ys k order ((all_once ys).back k h);
})

-- ---- all touched keys

-- a changed row touches the key
abbrev pub TouchedBy : Sense → List Slice → ℕ × Row → ℕ → Type 0
TouchedBy root slices change k = Touches root slices change.0 change.1 k

pub touched_is : (root : Sense) (slices : List Slice) (changes : List (ℕ × Row)) (found keys : List ℕ) → GainsJust (OfOne (TouchedBy root slices) changes) [] found → HaveSame found keys → IsRising keys → AreTouched root slices changes keys
touched_is root slices changes found keys gained same rising = record {
  ascending = rising;
  all = λ k touched. same.there k (gained.come k touched);
  no_other = λ k at. elim (gained.no_other k (same.back k at)) [ inl none ↦ absurd none | inr touched ↦ touched ];
}

-- what touches a key is covered
touching : (root : Sense) (slices : List Slice) (relation : ℕ) (row : Row) (k : ℕ) → Touches root slices relation row k → covers (united root slices) relation row ≡ true
touching root slices relation row k h =
    elim h [
      | inl s ↦ covered_slice root slices s.0 s.1 relation row s.3
      | inr g ↦ covered_root root slices relation row (or_left (list_any (λ (gap : KeptGap). gap_covers gap relation row) root.gaps) (list_any (λ (hit : Hit). hit_covers hit relation row) root.hits)
          (list_any_of (λ (gap : KeptGap). gap_covers gap relation row) g.0 root.gaps g.1 g.2.0))
    ]

-- where the changes name each covered row on which two states don't agree, these are enough
pub touched_enough : (root : Sense) (slices : List Slice) (changes : List (ℕ × Row)) (keys : List ℕ) → AreTouched root slices changes keys → (s t : State) → NameCovered changes root slices s t → HaveTouched keys root slices s t
touched_enough root slices changes keys are s t named relation row k differ touches = are.all k ((relation, row), named relation row differ (touching root slices relation row k touches), touches)
