-- Slices made up of senses and rows.
use Rattle.std.specs.Prelude.{◌≡◌, ℕ, ◌<◌, ◌≤◌, ◌==◌, List, [], ◌∷◌, ◌++◌}
use Rattle.std.specs.List.{AllByRecursion, flat_map}
use Rattle.std.proofs.Common.{refl, sym, ap, ap₂, ◌∙◌, subst, inl, inr, arith, cond}
use Rattle.std.proofs.lemmas.Bool.{cases_Bool, eqb-true, eq-eqb, ne_eqb, true≢false}
use Rattle.std.proofs.lemmas.List.{append-nil, map-append}
use Rattle.lt_face.specs.Lists.{IsIn}
use Rattle.lt_face.specs.State.{Row}
use Rattle.lt_face.proofs.Membership.{IsIn-append_left, IsIn-append_right, IsIn-append_cases}
use Rattle.lt_face.proofs.RowLemmas.{each_weaker}
use Rattle.lt_query.specs.Lists.{IsRising}
use Rattle.lt_sense.specs.Kept.{Sense}
use Rattle.lt_sense.specs.ByKey.{KeySense, united_by_key}
use Rattle.lt_join.specs.Sliced.{slice_keys, united, sliced_rows}
use Rattle.lt_join.specs.Slices.{AreKeyed, KeyRows, Slice, row_keys, rows_at, rows_in, rows_of_key, sense_keys, slice_of, slices_of}
use Rattle.lt_join.proofs.KeyByKey.{rising_more}
use Rattle.lt_join.proofs.Lists.{all_append}
use Rattle.lt_join.proofs.Repair.{All_at, All_of}

-- ---- the rows of a key

pub rows_at_none : (k : ℕ) (all : List KeyRows) → (IsIn k (row_keys all) → ⊥) → rows_at k all ≡ []
rows_at_none k [] out = refl
rows_at_none k (r ∷ all) out =
    ap (λ b. cond b r.rows (rows_at k all)) (ne_eqb r.key k (λ e. out (inl e))) ∙ rows_at_none k all (λ at. out (inr at))

pub rows_at_first : (k : ℕ) (xs ys : List KeyRows) → (IsIn k (row_keys ys) → ⊥) → rows_at k (xs ++ ys) ≡ rows_at k xs
rows_at_first k [] ys out = rows_at_none k ys out
rows_at_first k (r ∷ xs) ys out = ap (λ rows. cond (r.key == k) r.rows rows) (rows_at_first k xs ys out)

pub rows_at_second : (k : ℕ) (xs ys : List KeyRows) → (IsIn k (row_keys xs) → ⊥) → rows_at k (xs ++ ys) ≡ rows_at k ys
rows_at_second k [] ys out = refl
rows_at_second k (r ∷ xs) ys out =
    ap (λ b. cond b r.rows (rows_at k (xs ++ ys))) (ne_eqb r.key k (λ e. out (inl e))) ∙ rows_at_second k xs ys (λ at. out (inr at))

pub rows_at_one : (key : ℕ) (rows : List Row) → rows_at key (rows_of_key key rows) ≡ rows
rows_at_one key [] = refl
rows_at_one key (row ∷ rows) = ap (λ b. cond b (row ∷ rows) []) (eq-eqb key key refl)

pub key_of_one : (key : ℕ) (rows : List Row) (k : ℕ) → IsIn k (row_keys (rows_of_key key rows)) → key ≡ k
key_of_one key [] k h = absurd h
key_of_one key (row ∷ rows) k h = elim h [ inl e ↦ e | inr none ↦ absurd none ]

pub row_keys_append : (xs ys : List KeyRows) → row_keys (xs ++ ys) ≡ row_keys xs ++ row_keys ys
row_keys_append xs ys = map-append (λ (r : KeyRows). r.key) xs ys

-- ---- slices

pub keys_of_slices : (all : List KeyRows) (senses : List KeySense) → slice_keys (slices_of all senses) ≡ sense_keys senses
keys_of_slices all [] = refl
keys_of_slices all (s ∷ senses) = ap (λ ks. s.key ∷ ks) (keys_of_slices all senses)

-- where the rows of their keys are the same
pub slices_same : (all other : List KeyRows) (senses : List KeySense) → AllByRecursion (λ k. rows_at k all ≡ rows_at k other) (sense_keys senses) → slices_of all senses ≡ slices_of other senses
slices_same all other [] h = refl
slices_same all other (s ∷ senses) h = ap₂ (λ (rows : List Row) (rest : List Slice). record { key = s.key; rows = rows; sense = s.sense } ∷ rest) h.0 (slices_same all other senses h.1)

-- what they keep together
pub united_is : (root : Sense) (all : List KeyRows) (senses : List KeySense) → united root (slices_of all senses) ≡ united_by_key (record { root = root; slices = senses })
united_is root all senses =
    ap₂ (λ gs hs. record { gaps = root.gaps ++ gs; hits = root.hits ++ hs }) (gaps senses) (hits senses) where
      gaps : (ss : List KeySense) → flat_map (λ (slice : Slice). slice.sense.gaps) (slices_of all ss) ≡ flat_map (λ (s : KeySense). s.sense.gaps) ss
      gaps [] = refl
      gaps (s ∷ ss) = ap (λ gs. s.sense.gaps ++ gs) (gaps ss)

      hits : (ss : List KeySense) → flat_map (λ (slice : Slice). slice.sense.hits) (slices_of all ss) ≡ flat_map (λ (s : KeySense). s.sense.hits) ss
      hits [] = refl
      hits (s ∷ ss) = ap (λ hs. s.sense.hits ++ hs) (hits ss)

-- nothing yet
pub keyed_none : (senses : List KeySense) (all : List KeyRows) → senses ≡ [] → all ≡ [] → AreKeyed senses all
keyed_none senses all none no_rows = rw (none, no_rows) (record { senses_rise = tt; rows_rise = tt; has = tt })

-- ---- a key above all others

module _ (senses : List KeySense) (all : List KeyRows) (so : AreKeyed senses all) (key : ℕ) (rows : List Row) (sense : Sense) (above : AllByRecursion (λ k. k < key) (sense_keys senses)) where
  abbrev pub one : KeySense
  one = record { key = key; sense = sense }

  keys_more : sense_keys (senses ++ one ∷ []) ≡ sense_keys senses ++ key ∷ []
  keys_more = map-append (λ (s : KeySense). s.key) senses (one ∷ [])

  rows_below : AllByRecursion (λ k. k < key) (row_keys all)
  rows_below = each_weaker (λ k. IsIn k (sense_keys senses)) (λ k. k < key) (λ k at. All_at (λ j. j < key) (sense_keys senses) k above at) (row_keys all) so.has

  rows_grow : (new : List Row) → IsRising (row_keys (all ++ rows_of_key key new))
  rows_grow [] = subst (λ xs. IsRising (row_keys xs)) (sym (append-nil all)) so.rows_rise
  rows_grow (row ∷ new) = subst IsRising (sym (row_keys_append all (rows_of_key key (row ∷ new)))) (rising_more (row_keys all) key so.rows_rise rows_below)

  pub keyed_more : (senses' : List KeySense) (all' : List KeyRows) → senses' ≡ senses ++ one ∷ [] → all' ≡ all ++ rows_of_key key rows → AreKeyed senses' all'
  keyed_more senses' all' is are = rw (is, are) (record {
    senses_rise = rw keys_more (rising_more (sense_keys senses) key so.senses_rise above);
    rows_rise = rows_grow rows;
    has = All_of (λ k. IsIn k (sense_keys (senses ++ one ∷ []))) (row_keys (all ++ rows_of_key key rows)) (λ k at. rw keys_more (
        elim (IsIn-append_cases k (row_keys all) (row_keys (rows_of_key key rows)) (subst (IsIn k) (row_keys_append all (rows_of_key key rows)) at)) [
          | inl old ↦ IsIn-append_left k (sense_keys senses) (key ∷ []) (All_at (λ j. IsIn j (sense_keys senses)) (row_keys all) k so.has old)
          | inr new ↦ IsIn-append_right k (sense_keys senses) (key ∷ []) (inl (key_of_one key rows k new))
        ]));
  })

  pub slices_more : (senses' : List KeySense) (all' : List KeyRows) → senses' ≡ senses ++ one ∷ [] → all' ≡ all ++ rows_of_key key rows → slices_of all' senses' ≡ slices_of all senses ++ record { key = key; rows = rows; sense = sense } ∷ []
  slices_more senses' all' is are =
      let old : slices_of (all ++ rows_of_key key rows) senses ≡ slices_of all senses =
      slices_same (all ++ rows_of_key key rows) all senses (each_weaker (λ k. k < key) (λ k. rows_at k (all ++ rows_of_key key rows) ≡ rows_at k all)
      (λ k lt. rows_at_first k all (rows_of_key key rows) (λ at. let e = key_of_one key rows k at in absurd (omega arith))) (sense_keys senses) above) in
      let new : rows_at key (all ++ rows_of_key key rows) ≡ rows =
      rows_at_second key all (rows_of_key key rows) (λ at. let lt = All_at (λ k. k < key) (row_keys all) key rows_below at in absurd (omega arith)) ∙ rows_at_one key rows in
      ap₂ slices_of are is
      ∙ map-append (slice_of (all ++ rows_of_key key rows)) senses (one ∷ [])
      ∙ ap₂ (λ (first : List Slice) (rs : List Row). first ++ record { key = key; rows = rs; sense = sense } ∷ []) old new

-- ---- keys below a number, and others from it on

module _ (mid : ℕ) (first next : List KeySense) (xs ys : List KeyRows) (low : AreKeyed first xs) (high : AreKeyed next ys) (below : AllByRecursion (λ k. k < mid) (sense_keys first)) (from : AllByRecursion (λ k. mid ≤ k) (sense_keys next)) where
  low_rows : AllByRecursion (λ k. k < mid) (row_keys xs)
  low_rows = each_weaker (λ k. IsIn k (sense_keys first)) (λ k. k < mid) (λ k at. All_at (λ j. j < mid) (sense_keys first) k below at) (row_keys xs) low.has

  high_rows : AllByRecursion (λ k. mid ≤ k) (row_keys ys)
  high_rows = each_weaker (λ k. IsIn k (sense_keys next)) (λ k. mid ≤ k) (λ k at. All_at (λ j. mid ≤ j) (sense_keys next) k from at) (row_keys ys) high.has

  rising_one : (ks ms : List ℕ) → IsRising ks → IsRising ms → AllByRecursion (λ k. k < mid) ks → AllByRecursion (λ m. mid ≤ m) ms → IsRising (ks ++ ms)
  rising_one [] ms h i under up = i
  rising_one (k ∷ ks) ms h i under up =
      (all_append (λ m. k < m) ks ms h.0 (each_weaker (λ m. mid ≤ m) (λ m. k < m) (λ m le. (let lt = under.0 in omega arith)) ms up), rising_one ks ms h.1 i under.1 up)

  pub keyed_both : (senses : List KeySense) (all : List KeyRows) → senses ≡ first ++ next → all ≡ xs ++ ys → AreKeyed senses all
  keyed_both senses all is are =
      let keys : sense_keys (first ++ next) ≡ sense_keys first ++ sense_keys next = map-append (λ (s : KeySense). s.key) first next in
      rw (is, are) (record {
        senses_rise = rw keys (rising_one (sense_keys first) (sense_keys next) low.senses_rise high.senses_rise below from);
        rows_rise = rw (row_keys_append xs ys) (rising_one (row_keys xs) (row_keys ys) low.rows_rise high.rows_rise low_rows high_rows);
        has = rw (row_keys_append xs ys) (all_append (λ k. IsIn k (sense_keys (first ++ next))) (row_keys xs) (row_keys ys)
            (each_weaker (λ k. IsIn k (sense_keys first)) (λ k. IsIn k (sense_keys (first ++ next))) (λ k at. rw keys (IsIn-append_left k (sense_keys first) (sense_keys next) at)) (row_keys xs) low.has)
            (each_weaker (λ k. IsIn k (sense_keys next)) (λ k. IsIn k (sense_keys (first ++ next))) (λ k at. rw keys (IsIn-append_right k (sense_keys first) (sense_keys next) at)) (row_keys ys) high.has));
      })

  pub slices_joined : (senses : List KeySense) (all : List KeyRows) → senses ≡ first ++ next → all ≡ xs ++ ys → slices_of all senses ≡ slices_of xs first ++ slices_of ys next
  slices_joined senses all is are =
      let one : slices_of (xs ++ ys) first ≡ slices_of xs first =
      slices_same (xs ++ ys) xs first (each_weaker (λ k. k < mid) (λ k. rows_at k (xs ++ ys) ≡ rows_at k xs)
      (λ k lt. rows_at_first k xs ys (λ at. let le = All_at (λ j. mid ≤ j) (row_keys ys) k high_rows at in absurd (omega arith))) (sense_keys first) below) in
      let two : slices_of (xs ++ ys) next ≡ slices_of ys next =
      slices_same (xs ++ ys) ys next (each_weaker (λ k. mid ≤ k) (λ k. rows_at k (xs ++ ys) ≡ rows_at k ys)
      (λ k le. rows_at_second k xs ys (λ at. let lt = All_at (λ j. j < mid) (row_keys xs) k low_rows at in absurd (omega arith))) (sense_keys next) from) in
      ap₂ slices_of are is ∙ map-append (slice_of (xs ++ ys)) first next ∙ ap₂ (λ (a b : List Slice). a ++ b) one two

-- ---- all rows

-- the first key's rows are in no slice of a greater key
later_same : (r : KeyRows) (all : List KeyRows) (senses : List KeySense) → AllByRecursion (λ k. r.key < k) (sense_keys senses) → slices_of (r ∷ all) senses ≡ slices_of all senses
later_same r all senses above =
    slices_same (r ∷ all) all senses (each_weaker (λ k. r.key < k) (λ k. rows_at k (r ∷ all) ≡ rows_at k all)
    (λ k lt. ap (λ b. cond b r.rows (rows_at k all)) (ne_eqb r.key k (λ e. omega arith))) (sense_keys senses) above)

pub all_rows : (senses : List KeySense) (all : List KeyRows) → AreKeyed senses all → sliced_rows (slices_of all senses) ≡ rows_in all
all_rows [] [] so = refl
all_rows [] (r ∷ all) so = absurd so.has.0
all_rows (s ∷ senses) [] so = all_rows senses [] (record { senses_rise = so.senses_rise.1; rows_rise = tt; has = tt })
all_rows (s ∷ senses) (r ∷ all) so =
    elim (cases_Bool (r.key == s.key)) [
      | inl e ↦
          let same : r.key ≡ s.key = eqb-true r.key s.key e in
          let above : AllByRecursion (λ k. r.key < k) (sense_keys senses) = subst (λ j. AllByRecursion (λ k. j < k) (sense_keys senses)) (sym same) so.senses_rise.0 in
          ap₂ (λ (rs : List Row) (rest : List Slice). rs ++ sliced_rows rest) (ap (λ b. cond b r.rows (rows_at s.key all)) e) (later_same r all senses above)
          ∙ ap (λ rest. r.rows ++ rest) (all_rows senses all (record {
            senses_rise = so.senses_rise.1;
            rows_rise = so.rows_rise.1;
            has = All_of (λ k. IsIn k (sense_keys senses)) (row_keys all) (λ k at. elim (All_at (λ j. IsIn j (s.key ∷ sense_keys senses)) (row_keys all) k so.has.1 at) [
              | inl q ↦ (let lt = All_at (λ j. r.key < j) (row_keys all) k so.rows_rise.0 at in absurd (omega arith))
              | inr there ↦ there
            ]);
          }))
      | inr e ↦
          let later : IsIn r.key (sense_keys senses) = elim so.has.0 [ inl q ↦ absurd (true≢false (sym (eq-eqb r.key s.key (sym q)) ∙ e)) | inr there ↦ there ] in
          let above : s.key < r.key = All_at (λ j. s.key < j) (sense_keys senses) r.key so.senses_rise.0 later in
          let none : rows_at s.key (r ∷ all) ≡ [] = rows_at_none s.key (r ∷ all) (λ at. elim at [
            | inl q ↦ absurd (omega arith)
            | inr there ↦ (let lt = All_at (λ j. r.key < j) (row_keys all) s.key so.rows_rise.0 there in absurd (omega arith))
          ]) in
          ap (λ (rs : List Row). rs ++ sliced_rows (slices_of (r ∷ all) senses)) none
          ∙ all_rows senses (r ∷ all) (record {
            senses_rise = so.senses_rise.1;
            rows_rise = so.rows_rise;
            has = (
              later,
              All_of (λ k. IsIn k (sense_keys senses)) (row_keys all) (λ k at. elim (All_at (λ j. IsIn j (s.key ∷ sense_keys senses)) (row_keys all) k so.has.1 at) [
                | inl q ↦ (let lt = All_at (λ j. r.key < j) (row_keys all) k so.rows_rise.0 at in absurd (omega arith))
                | inr there ↦ there
              ]),
            );
          })
    ]
