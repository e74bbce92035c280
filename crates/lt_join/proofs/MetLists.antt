-- Turns of a join whose iterators were opened rising, or stand at one key.
use Rattle.std.proofs.Common.{◌≡◌, ◌≢◌, ℕ, zero, suc, ◌+◌, ◌*◌, ◌-◌, ◌<◌, ◌≤◌, ◌==◌, ◌⊎◌, true, false, cond, List, [], ◌∷◌, ◌++◌, length, get_or, nat_le, refl, sym, ap, ◌∙◌, subst, inl, inr, arith}
use Rattle.std.specs.Prelude.{filter}
use Rattle.std.specs.List.{AllByRecursion, list_any, list_all}
use Rattle.std.proofs.Math.Nat.{mul-le-mul_left, mul-add}
use Rattle.std.proofs.lemmas.Bool.{cases_lt, and_parts, or_left, or_right, eq-eqb}
use Rattle.lt_face.specs.Keys.{end_key, least_from, IsKeyList, IsPlace}
use Rattle.lt_face.specs.Lists.{IsIn}
use Rattle.lt_face.proofs.KeyLemmas.{least-here, least-past, least_above, least_again}
use Rattle.lt_leap.specs.Common.{has_key}
use Rattle.lt_leap.specs.Places.{counted_from, turned, last_of}
use Rattle.lt_leap.specs.Potential.{least_length, join_cost, shortest, keys_left, turns_before, moves_left}
use Rattle.lt_leap.specs.Ring.{keys_at, IsRing}
use Rattle.lt_leap.specs.Search.{NonePassed}
use Rattle.lt_leap.proofs.Exact.{least_at_most}
use Rattle.lt_leap.proofs.Rounds.{turned-long}
use Rattle.lt_leap.proofs.Shortest.{shortest_least}
use Rattle.lt_join.specs.Level.{RiseFrom}

-- ---- turns

long_counted : (first n : ℕ) → length (counted_from first n) ≡ n
long_counted first zero = refl
long_counted first (suc n) = ap suc (long_counted (first + 1) n)

get_counted : (first n i : ℕ) → i < n → get_or (counted_from first n) i 0 ≡ first + i
get_counted first zero i lt = absurd (omega arith)
get_counted first (suc n) zero lt = omega arith
get_counted first (suc n) (suc i) lt = (let rest = get_counted (first + 1) n i (omega arith) in omega arith)

get_left : (xs ys : List ℕ) (a : ℕ) → a < length xs → get_or (xs ++ ys) a 0 ≡ get_or xs a 0
get_left [] ys a lt = absurd (omega arith)
get_left (x ∷ xs) ys zero lt = refl
get_left (x ∷ xs) ys (suc a) lt = get_left xs ys a (omega arith)

get_right : (xs ys : List ℕ) (a b : ℕ) → a ≡ length xs + b → get_or (xs ++ ys) a 0 ≡ get_or ys b 0
get_right [] ys a b e = (let same : a ≡ b = omega arith in ap (λ i. get_or ys i 0) same)
get_right (x ∷ xs) ys zero b e = absurd (omega arith)
get_right (x ∷ xs) ys (suc a) b e = get_right xs ys a b (omega arith)

-- whose turn is so many turns later
turn_at : (count turn a : ℕ) → turn < count → a < count → ((turn + a < count) × (get_or (turned count turn) a 0 ≡ turn + a)) ⊎ ((count ≤ turn + a) × (get_or (turned count turn) a 0 + count ≡ turn + a))
turn_at count turn zero lt within = inl (omega arith, omega arith)
turn_at count turn (suc a) lt within =
    let m = count - (turn + 1) in
    let long = long_counted (turn + 1) m in
    elim (cases_lt a m) [
      | inl early ↦ (
          let at = get_left (counted_from (turn + 1) m) (counted_from 0 turn) a (omega arith) in
          let is = get_counted (turn + 1) m a early in inl (omega arith, omega arith))
      | inr late ↦ (
          let at = get_right (counted_from (turn + 1) m) (counted_from 0 turn) a (a - m) (omega arith) in
          let is = get_counted 0 turn (a - m) (omega arith) in inr (omega arith, omega arith))
    ]

any_at : (xs : List ℕ) (a j : ℕ) → a < length xs → get_or xs a 0 ≡ j → list_any (λ i. i == j) xs ≡ true
any_at [] a j lt e = absurd (omega arith)
any_at (x ∷ xs) zero j lt e = or_left (x == j) (list_any (λ i. i == j) xs) (eq-eqb x j e)
any_at (x ∷ xs) (suc a) j lt e = or_right (x == j) (list_any (λ i. i == j) xs) (any_at xs a j (omega arith) e)

turn_covers : (count turn j : ℕ) → turn < count → j < count → list_any (λ i. i == j) (turned count turn) ≡ true
turn_covers count turn j lt within =
    let long = turned-long count turn lt in
    elim (cases_lt j turn) [
      | inl before ↦ any_at (turned count turn) (j + count - turn) j (omega arith)
          (elim (turn_at count turn (j + count - turn) lt (omega arith)) [ inl s ↦ (let a = s.0 in let b = s.1 in omega arith) | inr s ↦ (let a = s.0 in let b = s.1 in omega arith) ])
      | inr after ↦ any_at (turned count turn) (j - turn) j (omega arith)
          (elim (turn_at count turn (j - turn) lt (omega arith)) [ inl s ↦ (let a = s.0 in let b = s.1 in omega arith) | inr s ↦ (let a = s.0 in let b = s.1 in omega arith) ])
    ]

turn_within : (count turn a : ℕ) → turn < count → a < count → get_or (turned count turn) a 0 < count
turn_within count turn a lt within = elim (turn_at count turn a lt within) [ inl s ↦ (let p = s.0 in let q = s.1 in omega arith) | inr s ↦ (let p = s.0 in let q = s.1 in omega arith) ]

turn_differs : (count turn a b : ℕ) → turn < count → a < b → b < count → get_or (turned count turn) a 0 ≢ get_or (turned count turn) b 0
turn_differs count turn a b lt less within same =
    elim (turn_at count turn a lt (omega arith)) [
      | inl s ↦ (let p = s.0 in let q = s.1 in elim (turn_at count turn b lt within) [ inl t ↦ (let v = t.0 in let w = t.1 in omega arith) | inr t ↦ (let v = t.0 in let w = t.1 in omega arith) ])
      | inr s ↦ (let p = s.0 in let q = s.1 in elim (turn_at count turn b lt within) [ inl t ↦ (let v = t.0 in let w = t.1 in omega arith) | inr t ↦ (let v = t.0 in let w = t.1 in omega arith) ])
    ]

-- ---- all at one key

pub each_is : (xs : List ℕ) (key i : ℕ) → AllByRecursion (λ x. x ≡ key) xs → i < length xs → get_or xs i 0 ≡ key
each_is [] key i all lt = absurd (omega arith)
each_is (x ∷ xs) key zero all lt = all.0
each_is (x ∷ xs) key (suc i) all lt = each_is xs key i all.1 (omega arith)

pub list_each : (P : List ℕ → Type 0) (lists : List (List ℕ)) (i : ℕ) → AllByRecursion P lists → i < length lists → P (keys_at lists i)
list_each P [] i all lt = absurd (omega arith)
list_each P (ks ∷ lists) zero all lt = all.0
list_each P (ks ∷ lists) (suc i) all lt = list_each P lists i all.1 (omega arith)

key_above : (k key : ℕ) (ks : List ℕ) → AllByRecursion (λ l. k < l) ks → IsIn key ks → k < key
key_above k key [] all h = absurd h
key_above k key (l ∷ ks) all h = elim h [ inl e ↦ (let up = all.0 in omega arith) | inr r ↦ key_above k key ks all.1 r ]

-- a key is a place
pub place_of : (keys : List ℕ) (key : ℕ) → IsKeyList keys → IsIn key keys → IsPlace keys key
place_of [] key up h = absurd h
place_of (k ∷ ks) key up h =
    elim h [
      | inl e ↦ subst (λ n. least_from (k ∷ ks) n ≡ n) e (least-here k ks k (omega arith))
      | inr r ↦ (let less = key_above k key ks up.1 r in least-past k ks key less ∙ place_of ks key up.2 r)
    ]

-- all stand at one key: each turn begins a ring
pub ring_at_key : (lists : List (List ℕ)) (heres : List ℕ) (count turn key : ℕ) → length lists ≡ count → length heres ≡ count → turn < count → AllByRecursion IsKeyList lists → AllByRecursion (λ keys. IsIn key keys) lists
    → AllByRecursion (λ here. here ≡ key) heres → IsRing lists heres (turned count turn)
ring_at_key lists heres count turn key listed placed lt keyed there at =
    let long = turned-long count turn lt in
    record {
      some = omega arith;
      as_long = omega arith;
      listed = omega arith;
      covers = λ j less. turn_covers count turn j lt (omega arith);
      in_range = λ a less. (let w = turn_within count turn a lt (omega arith) in omega arith);
      distinct = λ a b less within. turn_differs count turn a b lt less (omega arith);
      rises = λ a b le within.
          let p = turn_within count turn a lt (omega arith) in
          let q = turn_within count turn b lt (omega arith) in
          let r = each_is heres key (get_or (turned count turn) a 0) at (omega arith) in
          let s = each_is heres key (get_or (turned count turn) b 0) at (omega arith) in
          omega arith;
      keyed = λ j less. list_each IsKeyList lists j keyed (omega arith);
      placed = λ j less.
          rw (each_is heres key j at less)
          (place_of (keys_at lists j) key (list_each IsKeyList lists j keyed (omega arith)) (list_each (λ keys. IsIn key keys) lists j there (omega arith)));
    }

-- ---- opened rising

least_below : (ks : List ℕ) (b : ℕ) → IsKeyList ks → least_from ks b ≤ end_key
least_below [] b up = omega arith
least_below (k ∷ ks) b up = elim (nat_le b k) as (λ t. cond t k (least_from ks b) ≤ end_key) [ true ↦ (let low = up.0 in omega arith) | false ↦ least_below ks b up.2 ]

pub rise_long : (from : ℕ) (lists : List (List ℕ)) (heres : List ℕ) → RiseFrom from lists heres → length heres ≡ length lists
rise_long from [] [] h = refl
rise_long from [] (here ∷ heres) h = absurd h
rise_long from (keys ∷ lists) [] h = absurd h
rise_long from (keys ∷ lists) (here ∷ heres) h = ap suc (rise_long here lists heres h.1)

pub rise_above : (from : ℕ) (lists : List (List ℕ)) (heres : List ℕ) (i : ℕ) → AllByRecursion IsKeyList lists → from ≤ end_key → RiseFrom from lists heres → i < length heres → from ≤ get_or heres i 0
rise_above from [] [] i keyed le h lt = absurd (omega arith)
rise_above from [] (here ∷ heres) i keyed le h lt = absurd h
rise_above from (keys ∷ lists) [] i keyed le h lt = absurd h
rise_above from (keys ∷ lists) (here ∷ heres) zero keyed le h lt = (let is = h.0 in let up = least_above keys from le in omega arith)
rise_above from (keys ∷ lists) (here ∷ heres) (suc i) keyed le h lt =
    let is = h.0 in
    let up = least_above keys from le in
    let low = least_below keys from keyed.0 in
    let rest = rise_above here lists heres i keyed.1 (omega arith) h.1 (omega arith) in
    omega arith

rise_rises : (from : ℕ) (lists : List (List ℕ)) (heres : List ℕ) (a b : ℕ) → AllByRecursion IsKeyList lists → RiseFrom from lists heres → a ≤ b → b < length heres → get_or heres a 0 ≤ get_or heres b 0
rise_rises from [] [] a b keyed h le lt = absurd (omega arith)
rise_rises from [] (here ∷ heres) a b keyed h le lt = absurd h
rise_rises from (keys ∷ lists) [] a b keyed h le lt = absurd h
rise_rises from (keys ∷ lists) (here ∷ heres) zero zero keyed h le lt = omega arith
rise_rises from (keys ∷ lists) (here ∷ heres) zero (suc b) keyed h le lt =
    let is = h.0 in
    let low = least_below keys from keyed.0 in
    rise_above here lists heres b keyed.1 (omega arith) h.1 (omega arith)
rise_rises from (keys ∷ lists) (here ∷ heres) (suc a) zero keyed h le lt = absurd (omega arith)
rise_rises from (keys ∷ lists) (here ∷ heres) (suc a) (suc b) keyed h le lt = rise_rises here lists heres a b keyed.1 h.1 (omega arith) (omega arith)

rise_placed : (from : ℕ) (lists : List (List ℕ)) (heres : List ℕ) (i : ℕ) → AllByRecursion IsKeyList lists → RiseFrom from lists heres → i < length heres → IsPlace (keys_at lists i) (get_or heres i 0)
rise_placed from [] [] i keyed h lt = absurd (omega arith)
rise_placed from [] (here ∷ heres) i keyed h lt = absurd h
rise_placed from (keys ∷ lists) [] i keyed h lt = absurd h
rise_placed from (keys ∷ lists) (here ∷ heres) zero keyed h lt = subst (IsPlace keys) (sym h.0) (least_again keys from keyed.0)
rise_placed from (keys ∷ lists) (here ∷ heres) (suc i) keyed h lt = rise_placed here lists heres i keyed.1 h.1 (omega arith)

-- no key that all have, from the bound on, was passed
pub rise_passes_none : (from : ℕ) (lists : List (List ℕ)) (heres : List ℕ) → AllByRecursion IsKeyList lists → RiseFrom from lists heres → NonePassed lists heres from
rise_passes_none from [] [] keyed h c all le i lt = absurd (omega arith)
rise_passes_none from [] (here ∷ heres) keyed h c all le i lt = absurd h
rise_passes_none from (keys ∷ lists) [] keyed h c all le i lt = absurd h
rise_passes_none from (keys ∷ lists) (here ∷ heres) keyed h c all le i lt =
    let both = and_parts (has_key keys c) (list_all (λ ks. has_key ks c) lists) all in
    let most = least_at_most keys from c keyed.0 both.0 le in
    let is = h.0 in
    first i lt (omega arith) (λ j less. rise_passes_none here lists heres keyed.1 h.1 c both.1 (omega arith) j less)
  where
    first : (i : ℕ) → i < length (here ∷ heres) → here ≤ c → ((j : ℕ) → j < length heres → get_or heres j 0 ≤ c) → get_or (here ∷ heres) i 0 ≤ c
    first zero lt le rest = le
    first (suc i) lt le rest = rest i (omega arith)

turn_first : (count a : ℕ) → a < count → get_or (turned count 0) a 0 ≡ a
turn_first count a lt = elim (turn_at count 0 a (omega arith) lt) [ inl s ↦ (let q = s.1 in omega arith) | inr s ↦ (let p = s.0 in omega arith) ]

pub ring_rising : (from : ℕ) (lists : List (List ℕ)) (heres : List ℕ) (count : ℕ) → length lists ≡ count → 0 < count → AllByRecursion IsKeyList lists → RiseFrom from lists heres → IsRing lists heres (turned count 0)
ring_rising from lists heres count listed some keyed rising =
    let long = turned-long count 0 some in
    let same = rise_long from lists heres rising in
    record {
      some = omega arith;
      as_long = omega arith;
      listed = omega arith;
      covers = λ j less. turn_covers count 0 j some (omega arith);
      in_range = λ a less. (let w = turn_within count 0 a some (omega arith) in omega arith);
      distinct = λ a b less within. turn_differs count 0 a b some less (omega arith);
      rises = λ a b le within. rw (turn_first count a (omega arith), turn_first count b (omega arith)) (rise_rises from lists heres a b keyed rising le (omega arith));
      keyed = λ j less. list_each IsKeyList lists j keyed (omega arith);
      placed = λ j less. rise_placed from lists heres j keyed rising less;
    }

-- the last stands at or above the bound
pub last_rising : (from : ℕ) (lists : List (List ℕ)) (heres : List ℕ) (count : ℕ) → length lists ≡ count → 0 < count → AllByRecursion IsKeyList lists → from ≤ end_key → RiseFrom from lists heres → from ≤ last_of heres (turned count 0)
last_rising from lists heres count listed some keyed le rising =
    let long = turned-long count 0 some in
    let same = rise_long from lists heres rising in
    let w = turn_within count 0 (length (turned count 0) - 1) some (omega arith) in
    rise_above from lists heres (get_or (turned count 0) (length (turned count 0) - 1) 0) keyed le rising (omega arith)

all_each : (P : ℕ → Type 0) (xs : List ℕ) (i : ℕ) → AllByRecursion P xs → i < length xs → P (get_or xs i 0)
all_each P [] i all lt = absurd (omega arith)
all_each P (x ∷ xs) zero all lt = all.0
all_each P (x ∷ xs) (suc i) all lt = all_each P xs i all.1 (omega arith)

pub last_within : (heres : List ℕ) (count key : ℕ) → length heres ≡ count → 0 < count → AllByRecursion (λ here. here ≤ key) heres → last_of heres (turned count 0) ≤ key
last_within heres count key listed some all =
    let long = turned-long count 0 some in
    let w = turn_within count 0 (length (turned count 0) - 1) some (omega arith) in
    all_each (λ here. here ≤ key) heres (get_or (turned count 0) (length (turned count 0) - 1) 0) all (omega arith)

-- ---- the moves that are paid

left_few : (ks : List ℕ) (bound : ℕ) → keys_left ks bound ≤ length ks
left_few [] bound = omega arith
left_few (k ∷ ks) bound = (let rest = left_few ks bound in elim (nat_le bound k) as (λ t. length (cond t (k ∷ filter (λ l. nat_le bound l) ks) (filter (λ l. nat_le bound l) ks)) ≤ length (k ∷ ks)) [ true ↦ omega arith | false ↦ omega arith ])

turns_few : (j : ℕ) (ring : List ℕ) → turns_before j ring ≤ length ring
turns_few j [] = omega arith
turns_few j (i ∷ is) = (let rest = turns_few j is in elim (i == j) as (λ t. cond t 0 (turns_before j is + 1) ≤ length (i ∷ is)) [ true ↦ omega arith | false ↦ omega arith ])

-- each was opened once, and the shortest goes on from there
pub moves_begun : (lists : List (List ℕ)) (heres : List ℕ) (count turn : ℕ) → length lists ≡ count → turn < count → count + moves_left lists heres (turned count turn) (shortest lists) ≤ join_cost lists
moves_begun lists heres count turn listed lt =
    let s = shortest lists in
    let m = least_length lists in
    let long = turned-long count turn lt in
    let short = shortest_least lists in
    let few = left_few (keys_at lists s) (get_or heres s 0) in
    let times = mul-le-mul_left count (let le : keys_left (keys_at lists s) (get_or heres s 0) ≤ m = omega arith in le) in
    let turns = turns_few s (turned count turn) in
    rw (long, listed) (spread count (keys_left (keys_at lists s) (get_or heres s 0)) m (turns_before s (turned count turn)) times (omega arith))
  where
    spread : (n k m t : ℕ) → n * k ≤ n * m → t ≤ n → n + (n * k + t) ≤ n * (m + 2)
    spread n k m t times few = (let e = mul-add n m 2 in omega arith)
