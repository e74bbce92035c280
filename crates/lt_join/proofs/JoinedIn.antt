-- Slices of some keys, joined anew one after the other and put among others.
use Rattle.std.specs.Prelude.{◌≡◌, ℕ, ◌<◌, Bool, true, false, not, ◌==◌, nat_lt, List, [], ◌∷◌, ◌++◌, filter, ◌⊎◌}
use Rattle.std.specs.List.{AllByRecursion}
use Rattle.std.proofs.Common.{refl, sym, ap, ◌∙◌, subst, inl, inr, arith, cond}
use Rattle.std.proofs.lemmas.Bool.{cases_Bool, cases_order, eqb-true, eq-eqb, ltb-true, lt-ltb, le-ltb, true≢false}
use Rattle.lt_face.specs.Lists.{IsIn}
use Rattle.lt_face.specs.State.{Row}
use Rattle.lt_face.proofs.Membership.{IsIn-append_cases, IsIn-map, IsIn-map_from}
use Rattle.lt_query.specs.Lists.{IsRising}
use Rattle.lt_query.proofs.Distinct.{IsIn-filter, IsIn-filter_from}
use Rattle.lt_sense.specs.ByKey.{KeySense, has_key, put_slice, slices_without}
use Rattle.lt_join.specs.Slices.{KeyRows, is_above, is_below, put_rows, row_keys, rows_at, rows_of_key, sense_keys}
use Rattle.lt_join.proofs.Keyed.{key_of_one, row_keys_append, rows_at_first, rows_at_one, rows_at_second}
use Rattle.lt_join.proofs.Repair.{All_at, All_of, list_any_from, list_any_of}

-- ---- a sense put among others

pub in_put : (s x : KeySense) (senses : List KeySense) → IsIn x (put_slice s senses) → (s ≡ x) ⊎ IsIn x senses
in_put s x [] h = elim h [ inl e ↦ inl e | inr none ↦ absurd none ]
in_put s x (y ∷ senses) h =
    elim (nat_lt s.key y.key) as (λ b. IsIn x (cond b (s ∷ y ∷ senses) (y ∷ put_slice s senses)) → (s ≡ x) ⊎ IsIn x (y ∷ senses)) [
      | true ↦ λ at. elim at [ inl e ↦ inl e | inr r ↦ inr r ]
      | false ↦ λ at. elim at [ inl e ↦ inr (inl e) | inr r ↦ elim (in_put s x senses r) [ inl e ↦ inl e | inr there ↦ inr (inr there) ] ]
    ] h

pub put_new : (s : KeySense) (senses : List KeySense) → IsIn s (put_slice s senses)
put_new s [] = inl refl
put_new s (y ∷ senses) =
    elim (nat_lt s.key y.key) as (λ b. IsIn s (cond b (s ∷ y ∷ senses) (y ∷ put_slice s senses))) [ true ↦ inl refl | false ↦ inr (put_new s senses) ]

pub put_old : (s x : KeySense) (senses : List KeySense) → IsIn x senses → IsIn x (put_slice s senses)
put_old s x [] h = absurd h
put_old s x (y ∷ senses) h =
    elim (nat_lt s.key y.key) as (λ b. IsIn x (cond b (s ∷ y ∷ senses) (y ∷ put_slice s senses))) [
      | true ↦ inr h
      | false ↦ elim h [ inl e ↦ inl e | inr r ↦ inr (put_old s x senses r) ]
    ]

pub put_last : (s : KeySense) (senses : List KeySense) → AllByRecursion (λ k. k < s.key) (sense_keys senses) → put_slice s senses ≡ senses ++ s ∷ []
put_last s [] h = refl
put_last s (y ∷ senses) h =
    ap (λ b. cond b (s ∷ y ∷ senses) (y ∷ put_slice s senses)) (le-ltb s.key y.key (let lt = h.0 in omega arith)) ∙ ap (λ xs. y ∷ xs) (put_last s senses h.1)

keys_above : (k : ℕ) (s : KeySense) (senses : List KeySense) → k < s.key → AllByRecursion (λ j. k < j) (sense_keys senses) → AllByRecursion (λ j. k < j) (sense_keys (put_slice s senses))
keys_above k s senses lt h = All_of (λ j. k < j) (sense_keys (put_slice s senses)) (λ j at.
    let f = IsIn-map_from (λ (x : KeySense). x.key) j (put_slice s senses) at in
    elim (in_put s f.0 senses f.1) [
      | inl e ↦ (let same : s.key ≡ j = ap (λ (x : KeySense). x.key) e ∙ f.2 in subst (λ m. k < m) same lt)
      | inr old ↦ All_at (λ m. k < m) (sense_keys senses) j h (subst (λ m. IsIn m (sense_keys senses)) f.2 (IsIn-map (λ (x : KeySense). x.key) f.0 senses old))
    ])

pub put_rises : (s : KeySense) (senses : List KeySense) → IsRising (sense_keys senses) → (IsIn s.key (sense_keys senses) → ⊥) → IsRising (sense_keys (put_slice s senses))
put_rises s [] h out = (tt, tt)
put_rises s (y ∷ senses) h out =
    elim (cases_order s.key y.key) [
      | inl e ↦ absurd (out (inl (sym e)))
      | inr r ↦ elim r [
        | inl lt ↦ subst (λ b. IsRising (sense_keys (cond b (s ∷ y ∷ senses) (y ∷ put_slice s senses)))) (sym (lt-ltb s.key y.key lt))
            ((lt, All_of (λ k. s.key < k) (sense_keys senses) (λ k at. let gt = All_at (λ j. y.key < j) (sense_keys senses) k h.0 at in omega arith)), h)
        | inr gt ↦ subst (λ b. IsRising (sense_keys (cond b (s ∷ y ∷ senses) (y ∷ put_slice s senses)))) (sym (le-ltb s.key y.key (omega arith)))
            (keys_above y.key s senses gt h.0, put_rises s senses h.1 (λ at. out (inr at)))
      ]
    ]

-- ---- senses of other keys

has_of : (keys : List ℕ) (k : ℕ) → IsIn k keys → has_key keys k ≡ true
has_of keys k at = list_any_of (λ j. j == k) k keys at (eq-eqb k k refl)

has_from : (keys : List ℕ) (k : ℕ) → has_key keys k ≡ true → IsIn k keys
has_from keys k h = let f = list_any_from (λ j. j == k) keys h in subst (λ j. IsIn j keys) (eqb-true f.0 k f.2) f.1

abbrev pub is_other : List ℕ → KeySense → Bool
is_other keys s = not (has_key keys s.key)

pub other_or_key : (keys : List ℕ) (senses : List KeySense) (s : KeySense) → IsIn s senses → IsIn s.key keys ⊎ IsIn s (slices_without keys senses)
other_or_key keys senses s at =
    elim (cases_Bool (has_key keys s.key)) [
      | inl e ↦ inl (has_from keys s.key e)
      | inr e ↦ inr (IsIn-filter (is_other keys) s senses at (ap not e))
    ]

pub other_is : (keys : List ℕ) (senses : List KeySense) (s : KeySense) → IsIn s (slices_without keys senses) → IsIn s senses × (IsIn s.key keys → ⊥)
other_is keys senses s at =
    let f = IsIn-filter_from (is_other keys) s senses at in
    (f.0, λ key. true≢false (sym f.1 ∙ ap not (has_of keys s.key key)))

pub others_out : (keys : List ℕ) (senses : List KeySense) → AllByRecursion (λ k. IsIn k keys → ⊥) (sense_keys (slices_without keys senses))
others_out keys senses = All_of (λ k. IsIn k keys → ⊥) (sense_keys (slices_without keys senses)) (λ k at.
    let f = IsIn-map_from (λ (s : KeySense). s.key) k (slices_without keys senses) at in
    subst (λ j. IsIn j keys → ⊥) f.2 (other_is keys senses f.0 f.1).1)

filter_rises : (p : KeySense → Bool) (senses : List KeySense) → IsRising (sense_keys senses) → IsRising (sense_keys (filter p senses))
filter_rises p [] h = tt
filter_rises p (s ∷ senses) h =
    elim (p s) as (λ b. IsRising (sense_keys (cond b (s ∷ filter p senses) (filter p senses)))) [
      | true ↦ (
        All_of (λ k. s.key < k) (sense_keys (filter p senses)) (λ k at.
            let f = IsIn-map_from (λ (x : KeySense). x.key) k (filter p senses) at in
            All_at (λ j. s.key < j) (sense_keys senses) k h.0 (subst (λ j. IsIn j (sense_keys senses)) f.2 (IsIn-map (λ (x : KeySense). x.key) f.0 senses (IsIn-filter_from p f.0 senses f.1).0))),
        filter_rises p senses h.1,
      )
      | false ↦ filter_rises p senses h.1
    ]

pub others_rise : (keys : List ℕ) (senses : List KeySense) → IsRising (sense_keys senses) → IsRising (sense_keys (slices_without keys senses))
others_rise keys senses h = filter_rises (is_other keys) senses h

-- ---- one key's rows in the place of those that stood there

key_in : (p : KeyRows → Bool) (all : List KeyRows) (k : ℕ) → IsIn k (row_keys (filter p all)) → (r : KeyRows) × IsIn r all × (p r ≡ true) × (r.key ≡ k)
key_in p all k at =
    let f = IsIn-map_from (λ (r : KeyRows). r.key) k (filter p all) at in
    let g = IsIn-filter_from p f.0 all f.1 in
    (f.0, g.0, g.1, f.2)

not_below : (key : ℕ) (all : List KeyRows) → IsIn key (row_keys (filter (is_below key) all)) → ⊥
not_below key all at = let f = key_in (is_below key) all key at in let lt : f.0.key < key = ltb-true f.0.key key f.2 in let e = f.3 in absurd (omega arith)

not_above : (key : ℕ) (all : List KeyRows) → IsIn key (row_keys (filter (is_above key) all)) → ⊥
not_above key all at = let f = key_in (is_above key) all key at in let lt : key < f.0.key = ltb-true key f.0.key f.2 in let e = f.3 in absurd (omega arith)

pub put_at_key : (key : ℕ) (rows : List Row) (all : List KeyRows) → rows_at key (put_rows key rows all) ≡ rows
put_at_key key rows all =
    rows_at_second key (filter (is_below key) all) (rows_of_key key rows ++ filter (is_above key) all) (not_below key all)
    ∙ rows_at_first key (rows_of_key key rows) (filter (is_above key) all) (not_above key all)
    ∙ rows_at_one key rows

without_it : (k : ℕ) (r : KeyRows) (rest : List KeyRows) → (r.key == k) ≡ false → (b : Bool) → rows_at k (cond b (r ∷ rest) rest) ≡ rows_at k rest
without_it k r rest e true = ap (λ b. cond b r.rows (rows_at k rest)) e
without_it k r rest e false = refl

-- a filter that keeps a key's rows doesn't change them
filter_keeps : (p : KeyRows → Bool) (k : ℕ) (all : List KeyRows) → ((r : KeyRows) → r.key ≡ k → p r ≡ true) → rows_at k (filter p all) ≡ rows_at k all
filter_keeps p k [] keeps = refl
filter_keeps p k (r ∷ all) keeps =
    elim (cases_Bool (r.key == k)) [
      | inl e ↦ ap (λ b. rows_at k (cond b (r ∷ filter p all) (filter p all))) (keeps r (eqb-true r.key k e))
          ∙ ap (λ b. cond b r.rows (rows_at k (filter p all))) e ∙ sym (ap (λ b. cond b r.rows (rows_at k all)) e)
      | inr e ↦ without_it k r (filter p all) e (p r) ∙ filter_keeps p k all keeps ∙ sym (ap (λ b. cond b r.rows (rows_at k all)) e)
    ]

pub put_elsewhere : (key : ℕ) (rows : List Row) (all : List KeyRows) (k : ℕ) → (key ≡ k → ⊥) → rows_at k (put_rows key rows all) ≡ rows_at k all
put_elsewhere key rows all k differs =
    let not_one : IsIn k (row_keys (rows_of_key key rows)) → ⊥ = λ at. differs (key_of_one key rows k at) in
    elim (cases_order k key) [
      | inl e ↦ absurd (differs (sym e))
      | inr r ↦ elim r [
        | inl lt ↦
            rows_at_first k (filter (is_below key) all) (rows_of_key key rows ++ filter (is_above key) all) (λ at.
            elim (IsIn-append_cases k (row_keys (rows_of_key key rows)) (row_keys (filter (is_above key) all)) (subst (IsIn k) (row_keys_append (rows_of_key key rows) (filter (is_above key) all)) at)) [
              | inl one ↦ not_one one
              | inr above ↦ (let f = key_in (is_above key) all k above in let gt : key < f.0.key = ltb-true key f.0.key f.2 in let e = f.3 in absurd (omega arith))
            ])
            ∙ filter_keeps (is_below key) k all (λ x e. lt-ltb x.key key (omega arith))
        | inr gt ↦
            rows_at_second k (filter (is_below key) all) (rows_of_key key rows ++ filter (is_above key) all) (λ at. (let f = key_in (is_below key) all k at in let low : f.0.key < key = ltb-true f.0.key key f.2 in let e = f.3 in absurd (omega arith)))
            ∙ rows_at_second k (rows_of_key key rows) (filter (is_above key) all) not_one
            ∙ filter_keeps (is_above key) k all (λ x e. lt-ltb key x.key (omega arith))
      ]
    ]

pub put_keys_from : (key : ℕ) (rows : List Row) (all : List KeyRows) (k : ℕ) → IsIn k (row_keys (put_rows key rows all)) → (key ≡ k) ⊎ IsIn k (row_keys all)
put_keys_from key rows all k at =
    let rest = rows_of_key key rows ++ filter (is_above key) all in
    let back : (p : KeyRows → Bool) → IsIn k (row_keys (filter p all)) → IsIn k (row_keys all) = λ p at. (let f = key_in p all k at in subst (λ j. IsIn j (row_keys all)) f.3 (IsIn-map (λ (r : KeyRows). r.key) f.0 all f.1)) in
    elim (IsIn-append_cases k (row_keys (filter (is_below key) all)) (row_keys rest) (subst (IsIn k) (row_keys_append (filter (is_below key) all) rest) at)) [
      | inl low ↦ inr (back (is_below key) low)
      | inr later ↦ elim (IsIn-append_cases k (row_keys (rows_of_key key rows)) (row_keys (filter (is_above key) all)) (subst (IsIn k) (row_keys_append (rows_of_key key rows) (filter (is_above key) all)) later)) [
        | inl one ↦ inl (key_of_one key rows k one)
        | inr above ↦ inr (back (is_above key) above)
      ]
    ]

-- a filter of rows that rise, and rows below a key, the key's and those above it
above_stays : (k : ℕ) (p : KeyRows → Bool) (all : List KeyRows) → AllByRecursion (λ j. k < j) (row_keys all) → AllByRecursion (λ j. k < j) (row_keys (filter p all))
above_stays k p all h = All_of (λ j. k < j) (row_keys (filter p all)) (λ j at. let f = key_in p all j at in All_at (λ m. k < m) (row_keys all) j h (subst (λ m. IsIn m (row_keys all)) f.3 (IsIn-map (λ (r : KeyRows). r.key) f.0 all f.1)))

rows_filter_rise : (p : KeyRows → Bool) (all : List KeyRows) → IsRising (row_keys all) → IsRising (row_keys (filter p all))
rows_filter_rise p [] h = tt
rows_filter_rise p (r ∷ all) h =
    elim (p r) as (λ b. IsRising (row_keys (cond b (r ∷ filter p all) (filter p all)))) [
      | true ↦ (above_stays r.key p all h.0, rows_filter_rise p all h.1)
      | false ↦ rows_filter_rise p all h.1
    ]

rise_over : (key : ℕ) (ks ms : List ℕ) → IsRising ks → IsRising ms → AllByRecursion (λ k. k < key) ks → AllByRecursion (λ m. key < m) ms → IsRising (ks ++ ms)
rise_over key [] ms h i low high = i
rise_over key (k ∷ ks) ms h i low high = (
  All_of (λ m. k < m) (ks ++ ms) (λ m at. elim (IsIn-append_cases m ks ms at) [
    | inl first ↦ All_at (λ j. k < j) ks m h.0 first
    | inr next ↦ (let a = low.0 in let b = All_at (λ j. key < j) ms m high next in omega arith)
  ]),
  rise_over key ks ms h.1 i low.1 high,
)

rise_around : (key : ℕ) (ks ms : List ℕ) → IsRising ks → IsRising ms → AllByRecursion (λ k. k < key) ks → AllByRecursion (λ m. key < m) ms → IsRising (ks ++ key ∷ ms)
rise_around key [] ms h i low high = (high, i)
rise_around key (k ∷ ks) ms h i low high = (
  All_of (λ m. k < m) (ks ++ key ∷ ms) (λ m at. elim (IsIn-append_cases m ks (key ∷ ms) at) [
    | inl first ↦ All_at (λ j. k < j) ks m h.0 first
    | inr next ↦ elim next [
      | inl e ↦ (let lt = low.0 in omega arith)
      | inr up ↦ (let lt = low.0 in let gt = All_at (λ j. key < j) ms m high up in omega arith)
    ]
  ]),
  rise_around key ks ms h.1 i low.1 high,
)

rise_with : (key : ℕ) (rows : List Row) (xs ys : List KeyRows) → IsRising (row_keys xs) → IsRising (row_keys ys) → AllByRecursion (λ k. k < key) (row_keys xs) → AllByRecursion (λ k. key < k) (row_keys ys) → IsRising (row_keys (xs ++ (rows_of_key key rows ++ ys)))
rise_with key [] xs ys h i low high = subst IsRising (sym (row_keys_append xs ys)) (rise_over key (row_keys xs) (row_keys ys) h i low high)
rise_with key (row ∷ rows) xs ys h i low high = subst IsRising (sym (row_keys_append xs (record { key = key; rows = row ∷ rows } ∷ ys))) (rise_around key (row_keys xs) (row_keys ys) h i low high)

pub put_rows_rise : (key : ℕ) (rows : List Row) (all : List KeyRows) → IsRising (row_keys all) → IsRising (row_keys (put_rows key rows all))
put_rows_rise key rows all h =
    rise_with key rows (filter (is_below key) all) (filter (is_above key) all) (rows_filter_rise (is_below key) all h) (rows_filter_rise (is_above key) all h)
    (All_of (λ k. k < key) (row_keys (filter (is_below key) all)) (λ k at. let f = key_in (is_below key) all k at in let lt : f.0.key < key = ltb-true f.0.key key f.2 in let e = f.3 in omega arith))
    (All_of (λ k. key < k) (row_keys (filter (is_above key) all)) (λ k at. let f = key_in (is_above key) all k at in let lt : key < f.0.key = ltb-true key f.0.key f.2 in let e = f.3 in omega arith))
