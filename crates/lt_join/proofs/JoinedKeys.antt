-- The loop that joins the slices of some keys anew, and what it leaves.
use Rattle.std.specs.Prelude.{◌≡◌, ℕ, zero, suc, ◌+◌, ◌<◌, List, [], ◌∷◌, ◌++◌, filter, length, take, drop, ◌⊎◌}
use Rattle.std.specs.List.{AllByRecursion}
use Rattle.std.proofs.Common.{refl, sym, ap, ◌∙◌, subst, inl, inr, arith, get_or}
use Rattle.std.proofs.lemmas.Bool.{ltb-true}
use Rattle.lt_face.specs.Lists.{IsIn, AreInOrder}
use Rattle.lt_face.specs.State.{Row}
use Rattle.lt_face.proofs.Membership.{IsIn-append_left, IsIn-append_right, IsIn-append_cases, IsIn-map, IsIn-map_from}
use Rattle.lt_query.specs.Lists.{IsRising}
use Rattle.lt_query.proofs.Distinct.{IsIn-filter_from}
use Rattle.lt_sense.specs.Kept.{Sense}
use Rattle.lt_sense.specs.ByKey.{KeySense, put_slice, slices_without}
use Rattle.lt_join.specs.Mended.{AreMended}
use Rattle.lt_join.specs.MendedRows.{AreJoinedIn, IsNewOrOld}
use Rattle.lt_join.specs.Sliced.{slice_keys}
use Rattle.lt_join.specs.Slices.{AreBelow, AreKeyed, KeyRows, Slice, is_below, put_rows, row_keys, rows_at, rows_of_key, sense_keys, slice_of, slices_of}
use Rattle.lt_join.proofs.Keyed.{keys_of_slices}
use Rattle.lt_join.proofs.JoinedIn.{in_put, put_new, put_old, put_rises, other_or_key, other_is, put_at_key, put_elsewhere, put_keys_from, put_rows_rise}
use Rattle.lt_join.proofs.Lists.{all_append}
use Rattle.lt_join.proofs.Repair.{All_at, All_of}

-- ---- keys that rise

pub not_before : (keys : List ℕ) (i key : ℕ) → IsRising keys → i < length keys → key ≡ get_or keys i key → IsIn key (take i keys) → ⊥
not_before [] i key h lt is at = absurd (omega (arith, lt))
not_before (k ∷ keys) zero key h lt is at = at
not_before (k ∷ keys) (suc i) key h lt is at =
    elim at [
      | inl e ↦ (let above = All_at (λ j. k < j) keys key h.0 (there keys i key (omega (arith, lt)) is) in absurd (omega arith))
      | inr r ↦ not_before keys i key h.1 (omega (arith, lt)) is r
    ] where
      there : (ks : List ℕ) (i key : ℕ) → i < length ks → key ≡ get_or ks i key → IsIn key ks
      there [] i key lt is = absurd (omega (arith, lt))
      there (j ∷ ks) zero key lt is = inl (sym is)
      there (j ∷ ks) (suc i) key lt is = inr (there ks i key (omega (arith, lt)) is)

pub all_after : (keys : List ℕ) (i key : ℕ) → IsRising keys → i < length keys → key ≡ get_or keys i key → AllByRecursion (λ k. key < k) (drop (i + 1) keys)
all_after [] i key h lt is = absurd (omega (arith, lt))
all_after (k ∷ keys) zero key h lt is = subst (λ j. AllByRecursion (λ m. j < m) keys) (sym is) h.0
all_after (k ∷ keys) (suc i) key h lt is =
    let n : suc i + 1 ≡ suc (i + 1) = omega arith in subst (λ m. AllByRecursion (λ j. key < j) (drop m (k ∷ keys))) (sym n) (all_after keys i key h.1 (omega (arith, lt)) is)

pub next_of : (P : ℕ → Type 0) (keys : List ℕ) (i key : ℕ) → i < length keys → key ≡ get_or keys i key → AllByRecursion P (drop i keys) → P key × AllByRecursion P (drop (i + 1) keys)
next_of P [] i key lt is h = absurd (omega (arith, lt))
next_of P (k ∷ keys) zero key lt is h = (subst P (sym is) h.0, h.1)
next_of P (k ∷ keys) (suc i) key lt is h =
    let n : suc i + 1 ≡ suc (i + 1) = omega arith in subst (λ m. P key × AllByRecursion P (drop m (k ∷ keys))) (sym n) (next_of P keys i key (omega (arith, lt)) is h)

-- numbers that rise are in order
pub in_order : (keys : List ℕ) → IsRising keys → AreInOrder (λ a b. a < b) keys
in_order [] h = tt
in_order (k ∷ keys) h = (h.0, in_order keys h.1)

-- ---- what stands before the keys that are left

pub low_begun : (keys : List ℕ) (out : List KeyRows) → out ≡ [] → AllByRecursion (AreBelow out) keys
low_begun [] out none = tt
low_begun (k ∷ keys) out none = (subst (λ (all : List KeyRows). AreBelow all k) (sym none) tt, low_begun keys out none)

below_more : (key k : ℕ) (rows : List Row) (out rest : List KeyRows) → key < k → AreBelow out k → AreBelow (out ++ (filter (is_below key) rest ++ rows_of_key key rows)) k
below_more key k rows out rest lt low =
    all_append (λ (r : KeyRows). r.key < k) out (filter (is_below key) rest ++ rows_of_key key rows) low
    (all_append (λ (r : KeyRows). r.key < k) (filter (is_below key) rest) (rows_of_key key rows)
    (All_of (λ (r : KeyRows). r.key < k) (filter (is_below key) rest) (λ r at. let f = IsIn-filter_from (is_below key) r rest at in let less : r.key < key = ltb-true r.key key f.1 in omega arith))
    (one rows)) where
      one : (rows : List Row) → AllByRecursion (λ (r : KeyRows). r.key < k) (rows_of_key key rows)
      one [] = tt
      one (row ∷ rows) = (lt, tt)

pub low_more : (keys : List ℕ) (i key : ℕ) (rows : List Row) (out more rest : List KeyRows) → IsRising keys → i < length keys → key ≡ get_or keys i key → more ≡ out ++ (filter (is_below key) rest ++ rows_of_key key rows) → AllByRecursion (AreBelow out) (drop i keys) → AllByRecursion (AreBelow more) (drop (i + 1) keys)
low_more keys i key rows out more rest rises lt is pushed low =
    rw pushed (both (drop (i + 1) keys) (all_after keys i key rises lt is) (next_of (AreBelow out) keys i key lt is low).1) where
      both : (ks : List ℕ) → AllByRecursion (λ k. key < k) ks → AllByRecursion (AreBelow out) ks → AllByRecursion (AreBelow (out ++ (filter (is_below key) rest ++ rows_of_key key rows))) ks
      both [] a b = tt
      both (k ∷ ks) a b = (below_more key k rows out rest a.0 b.0, both ks a.1 b.1)

-- ---- the slices so far

module _ (IsNew : Slice → Type 0) (others : List KeySense) (old : List KeyRows) where
  pub joined_begun : (keys : List ℕ) (senses : List KeySense) (all : List KeyRows) → keys ≡ [] → senses ≡ others → all ≡ old → IsRising (sense_keys others) → IsRising (row_keys old) → AreJoinedIn IsNew keys others old senses all
  joined_begun keys senses all none is are h i = rw (none, is, are) (record {
    senses_rise = h;
    rows_rise = i;
    stay = λ s at. at;
    each = λ s at. inr (at, refl);
    has = λ k at. absurd at;
    rows_from = λ k at. inr at;
  })

  pub joined_more : (done more : List ℕ) (key : ℕ) (rows : List Row) (sense : Sense) (senses senses' : List KeySense) (all all' : List KeyRows) → more ≡ done ++ key ∷ [] → senses' ≡ put_slice (record { key = key; sense = sense }) senses → all' ≡ put_rows key rows all
      → (IsIn key done → ⊥) → (IsIn key (sense_keys others) → ⊥) → IsNew (record { key = key; rows = rows; sense = sense }) → AreJoinedIn IsNew done others old senses all → AreJoinedIn IsNew more others old senses' all'
  joined_more done more key rows sense senses senses' all all' grown is are fresh out made so =
      let one : KeySense = record { key = key; sense = sense } in
      let differs : (s : KeySense) → IsIn s senses → key ≡ s.key → ⊥ = λ s at e. elim (so.each s at) [
        | inl new ↦ fresh (subst (λ k. IsIn k done) (sym e) new.0)
        | inr was ↦ out (subst (λ k. IsIn k (sense_keys others)) (sym e) (IsIn-map (λ (x : KeySense). x.key) s others was.0))
      ] in
      rw (grown, is, are) (record {
        senses_rise = put_rises one senses so.senses_rise (λ at. let f = IsIn-map_from (λ (x : KeySense). x.key) key senses at in differs f.0 f.1 (sym f.2));
        rows_rise = put_rows_rise key rows all so.rows_rise;
        stay = λ s at. put_old one s senses (so.stay s at);
        each = λ s at. elim (in_put one s senses at) [
          | inl e ↦ subst (IsNewOrOld IsNew (done ++ key ∷ []) others old (put_rows key rows all)) e
              (inl (IsIn-append_right key done (key ∷ []) (inl refl), subst (λ (rs : List Row). IsNew (record { key = key; rows = rs; sense = sense })) (sym (put_at_key key rows all)) made))
          | inr there ↦
              let same = put_elsewhere key rows all s.key (differs s there) in
              elim (so.each s there) [
                | inl new ↦ inl (IsIn-append_left s.key done (key ∷ []) new.0, subst (λ (rs : List Row). IsNew (record { key = s.key; rows = rs; sense = s.sense })) (sym same) new.1)
                | inr was ↦ inr (was.0, same ∙ was.1)
              ]
        ];
        has = λ k at. elim (IsIn-append_cases k done (key ∷ []) at) [
          | inl before ↦
              (let f = IsIn-map_from (λ (x : KeySense). x.key) k senses (so.has k before) in
              subst (λ j. IsIn j (sense_keys (put_slice one senses))) f.2 (IsIn-map (λ (x : KeySense). x.key) f.0 (put_slice one senses) (put_old one f.0 senses f.1)))
          | inr now ↦ elim now [
            | inl e ↦ subst (λ j. IsIn j (sense_keys (put_slice one senses))) e (IsIn-map (λ (x : KeySense). x.key) one (put_slice one senses) (put_new one senses))
            | inr never ↦ absurd never
          ]
        ];
        rows_from = λ k at. elim (put_keys_from key rows all k at) [
          | inl e ↦ inl (IsIn-append_right k done (key ∷ []) (inl e))
          | inr before ↦ elim (so.rows_from k before) [ inl there ↦ inl (IsIn-append_left k done (key ∷ []) there) | inr there ↦ inr there ]
        ];
      })

-- ---- all of them

module _ (IsNew : Slice → Type 0) (keys : List ℕ) (were senses : List KeySense) (old all : List KeyRows) (others : List KeySense) (are : others ≡ slices_without keys were) (so : AreJoinedIn IsNew keys others old senses all) where
  was : (s : KeySense) → IsIn s others → IsIn s were × (IsIn s.key keys → ⊥)
  was s at = other_is keys were s (subst (IsIn s) are at)

  stays : (s : KeySense) → IsIn s were → IsIn s.key keys ⊎ IsIn s senses
  stays s at = elim (other_or_key keys were s at) [ inl key ↦ inl key | inr other ↦ inr (so.stay s (subst (IsIn s) (sym are) other)) ]

  same_slice : (s : KeySense) → rows_at s.key all ≡ rows_at s.key old → slice_of all s ≡ slice_of old s
  same_slice s e = ap (λ (rs : List Row). record { key = s.key; rows = rs; sense = s.sense }) e

  pub joined_keyed : AreKeyed were old → AreKeyed senses all
  joined_keyed before = record {
    senses_rise = so.senses_rise;
    rows_rise = so.rows_rise;
    has = All_of (λ k. IsIn k (sense_keys senses)) (row_keys all) (λ k at. elim (so.rows_from k at) [
      | inl key ↦ so.has k key
      | inr row ↦
          let f = IsIn-map_from (λ (x : KeySense). x.key) k were (All_at (λ j. IsIn j (sense_keys were)) (row_keys old) k before.has row) in
          elim (stays f.0 f.1) [
            | inl key ↦ so.has k (subst (λ j. IsIn j keys) f.2 key)
            | inr there ↦ subst (λ j. IsIn j (sense_keys senses)) f.2 (IsIn-map (λ (x : KeySense). x.key) f.0 senses there)
          ]
    ]);
  }

  pub joined_mends : AreMended keys (slices_of old were) (slices_of all senses)
  joined_mends = record {
    kept = λ slice at.
        let f = IsIn-map_from (slice_of old) slice were at in
        elim (stays f.0 f.1) [
          | inl key ↦ inl (subst (λ (x : Slice). IsIn x.key keys) f.2 key)
          | inr there ↦ elim (so.each f.0 there) [
            | inl new ↦ inl (subst (λ (x : Slice). IsIn x.key keys) f.2 new.0)
            | inr other ↦ inr (subst (λ (x : Slice). IsIn x (slices_of all senses)) (same_slice f.0 other.1 ∙ f.2) (IsIn-map (slice_of all) f.0 senses there))
          ]
        ];
    others = λ slice at.
        let f = IsIn-map_from (slice_of all) slice senses at in
        elim (so.each f.0 f.1) [
          | inl new ↦ inl (subst (λ (x : Slice). IsIn x.key keys) f.2 new.0)
          | inr other ↦ inr (subst (λ (x : Slice). IsIn x (slices_of old were)) (sym (same_slice f.0 other.1) ∙ f.2) (IsIn-map (slice_of old) f.0 were (was f.0 other.0).0))
        ];
    has = λ k at. subst (IsIn k) (sym (keys_of_slices all senses)) (so.has k at);
  }

  pub joined_rise : IsRising (slice_keys (slices_of all senses))
  joined_rise = subst IsRising (sym (keys_of_slices all senses)) so.senses_rise

  pub joined_new : (slice : Slice) → IsIn slice (slices_of all senses) → IsIn slice.key keys → IsNew slice
  joined_new slice at key =
      let f = IsIn-map_from (slice_of all) slice senses at in
      elim (so.each f.0 f.1) [
        | inl new ↦ subst IsNew f.2 new.1
        | inr other ↦ absurd ((was f.0 other.0).1 (subst (λ (x : Slice). IsIn x.key keys) (sym f.2) key))
      ]
