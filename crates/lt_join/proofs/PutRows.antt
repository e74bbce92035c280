-- Rows of a key in the place of those that stood there.
use Rattle.std.specs.Prelude.{◌≡◌, ℕ, zero, suc, ◌+◌, ◌<◌, ◌≤◌, List, [], ◌∷◌, ◌++◌, filter, length, drop}
use Rattle.std.specs.List.{AllByRecursion}
use Rattle.std.proofs.Common.{refl, sym, ap, ◌∙◌, subst, arith, cond, get_or}
use Rattle.std.proofs.lemmas.Bool.{lt-ltb, le-ltb}
use Rattle.std.proofs.lemmas.List.{append_assoc, append-nil, drop_all, drop_more}
use Rattle.std.proofs.lemmas.List.Elements.{filter-append}
use Rattle.lt_face.specs.State.{Row}
use Rattle.lt_query.specs.Lists.{IsRising}
use Rattle.lt_join.specs.Slices.{AreBelow, KeyRows, is_above, is_below, put_rows, row_keys, rows_of_key}

-- each one's key is above this one
abbrev pub AreAbove : ℕ → List KeyRows → Type 0
AreAbove k all = AllByRecursion (λ (r : KeyRows). k < r.key) all

above_keys : (k : ℕ) (all : List KeyRows) → AreAbove k all → AllByRecursion (λ j. k < j) (row_keys all)
above_keys k [] h = tt
above_keys k (s ∷ all) h = (h.0, above_keys k all h.1)

above_rows : (k : ℕ) (all : List KeyRows) → AllByRecursion (λ j. k < j) (row_keys all) → AreAbove k all
above_rows k [] h = tt
above_rows k (s ∷ all) h = (h.0, above_rows k all h.1)

-- ---- what filters leave

none_below : (k : ℕ) (all : List KeyRows) → AllByRecursion (λ (r : KeyRows). k ≤ r.key) all → filter (is_below k) all ≡ []
none_below k [] h = refl
none_below k (s ∷ all) h = ap (λ b. cond b (s ∷ filter (is_below k) all) (filter (is_below k) all)) (le-ltb s.key k h.0) ∙ none_below k all h.1

all_above : (k : ℕ) (all : List KeyRows) → AreAbove k all → filter (is_above k) all ≡ all
all_above k [] h = refl
all_above k (s ∷ all) h = ap (λ b. cond b (s ∷ filter (is_above k) all) (filter (is_above k) all)) (lt-ltb k s.key h.0) ∙ ap (λ xs. s ∷ xs) (all_above k all h.1)

-- the first one is below the key
below_first : (k : ℕ) (s : KeyRows) (all : List KeyRows) → s.key < k → (filter (is_below k) (s ∷ all) ≡ s ∷ filter (is_below k) all) × (filter (is_above k) (s ∷ all) ≡ filter (is_above k) all)
below_first k s all lt = (
  ap (λ b. cond b (s ∷ filter (is_below k) all) (filter (is_below k) all)) (lt-ltb s.key k lt),
  ap (λ b. cond b (s ∷ filter (is_above k) all) (filter (is_above k) all)) (le-ltb k s.key (omega arith)),
)

weaker : (k l : ℕ) → k ≤ l → (all : List KeyRows) → AreAbove l all → AllByRecursion (λ (r : KeyRows). k ≤ r.key) all
weaker k l le [] h = tt
weaker k l le (s ∷ all) h = ((let a = h.0 in omega arith), weaker k l le all h.1)

stronger : (k l : ℕ) → k ≤ l → (all : List KeyRows) → AreAbove l all → AreAbove k all
stronger k l le [] h = tt
stronger k l le (s ∷ all) h = ((let a = h.0 in omega arith), stronger k l le all h.1)

-- ---- a part of the old rows

rising_drop : (i : ℕ) (all : List KeyRows) → IsRising (row_keys all) → IsRising (row_keys (drop i all))
rising_drop zero all h = h
rising_drop (suc i) [] h = tt
rising_drop (suc i) (s ∷ all) h = rising_drop i all h.1

above_after : (old : List KeyRows) (i : ℕ) (s : KeyRows) → IsRising (row_keys old) → drop i old ≡ s ∷ drop (i + 1) old → AreAbove s.key (drop (i + 1) old)
above_after old i s rising e = above_rows s.key (drop (i + 1) old) (subst (λ xs. IsRising (row_keys xs)) e (rising_drop i old rising)).0

drop_next : {X : Type 0} (xs : List X) (i : ℕ) (x : X) → i < length xs → x ≡ get_or xs i x → drop i xs ≡ x ∷ drop (i + 1) xs
drop_next xs i x lt is = drop_more xs i x lt ∙ ap (λ y. y ∷ drop (i + 1) xs) (sym is)

-- with what stands before this place shared
pub record IsShared (key : ℕ) (old begun out : List KeyRows) (from i : ℕ) : Type 0 where
  pub below : out ++ filter (is_below key) (drop i old) ≡ begun ++ filter (is_below key) (drop from old)
  pub above : filter (is_above key) (drop i old) ≡ filter (is_above key) (drop from old)

pub IsShared-more : (key : ℕ) (old begun out more : List KeyRows) (from i : ℕ) (s : KeyRows) → i < length old → s ≡ get_or old i s → s.key < key → more ≡ out ++ s ∷ [] → IsShared key old begun out from i → IsShared key old begun more from (i + 1)
IsShared-more key old begun out more from i s lt is low e so =
    let first = drop_next old i s lt is in
    let parts = below_first key s (drop (i + 1) old) low in
    record {
      below = ap (λ xs. xs ++ filter (is_below key) (drop (i + 1) old)) e
          ∙ append_assoc out (s ∷ []) (filter (is_below key) (drop (i + 1) old))
          ∙ ap (λ xs. out ++ xs) (sym parts.0 ∙ ap (filter (is_below key)) (sym first))
          ∙ so.below;
      above = sym parts.1 ∙ ap (filter (is_above key)) (sym first) ∙ so.above;
    }

-- at the key
pub IsShared-at : (key : ℕ) (old begun out : List KeyRows) (from i : ℕ) (s : KeyRows) → IsRising (row_keys old) → i < length old → s ≡ get_or old i s → s.key ≡ key → IsShared key old begun out from i → (out ≡ begun ++ filter (is_below key) (drop from old)) × (drop (i + 1) old ≡ filter (is_above key) (drop from old))
IsShared-at key old begun out from i s rising lt is e so =
    let first = drop_next old i s lt is in
    let after : AreAbove key (drop (i + 1) old) = subst (λ k. AreAbove k (drop (i + 1) old)) e (above_after old i s rising first) in
    let low : filter (is_below key) (drop i old) ≡ [] = ap (filter (is_below key)) first ∙ none_below key (s ∷ drop (i + 1) old) (omega arith, weaker key key (omega arith) (drop (i + 1) old) after) in
    let high : filter (is_above key) (drop i old) ≡ drop (i + 1) old =
    ap (filter (is_above key)) first ∙ ap (λ b. cond b (s ∷ filter (is_above key) (drop (i + 1) old)) (filter (is_above key) (drop (i + 1) old))) (le-ltb key s.key (omega arith)) ∙ all_above key (drop (i + 1) old) after in
    (sym (append-nil out) ∙ ap (λ xs. out ++ xs) (sym low) ∙ so.below, sym high ∙ so.above)

-- past the key
pub IsShared-past : (key : ℕ) (old begun out : List KeyRows) (from i : ℕ) (s : KeyRows) → IsRising (row_keys old) → i < length old → s ≡ get_or old i s → key < s.key → IsShared key old begun out from i → (out ≡ begun ++ filter (is_below key) (drop from old)) × (drop i old ≡ filter (is_above key) (drop from old))
IsShared-past key old begun out from i s rising lt is high so =
    let first = drop_next old i s lt is in
    let after = above_after old i s rising first in
    let le : key ≤ s.key = omega arith in
    let above : AreAbove key (s ∷ drop (i + 1) old) = (high, stronger key s.key le (drop (i + 1) old) after) in
    let low : filter (is_below key) (drop i old) ≡ [] = ap (filter (is_below key)) first ∙ none_below key (s ∷ drop (i + 1) old) (weaker key key (omega arith) (s ∷ drop (i + 1) old) above) in
    let rest : filter (is_above key) (drop i old) ≡ drop i old = ap (filter (is_above key)) first ∙ all_above key (s ∷ drop (i + 1) old) above ∙ sym first in
    (sym (append-nil out) ∙ ap (λ xs. out ++ xs) (sym low) ∙ so.below, sym rest ∙ so.above)

pub IsShared-end : (key : ℕ) (old begun out : List KeyRows) (from i : ℕ) → length old ≤ i → IsShared key old begun out from i → (out ≡ begun ++ filter (is_below key) (drop from old)) × (drop (length old) old ≡ filter (is_above key) (drop from old))
IsShared-end key old begun out from i all so =
    let none : drop i old ≡ [] = drop_all i old all in (
      sym (append-nil out) ∙ ap (λ xs. out ++ filter (is_below key) xs) (sym none) ∙ so.below,
      drop_all (length old) old (omega arith) ∙ ap (filter (is_above key)) (sym none) ∙ so.above,
    )

-- ---- one key's rows

below_stays : (key : ℕ) (out : List KeyRows) → AreBelow out key → (filter (is_below key) out ≡ out) × (filter (is_above key) out ≡ [])
below_stays key [] h = (refl, refl)
below_stays key (r ∷ out) h =
    let rest = below_stays key out h.1 in
    let first = below_first key r out h.0 in
    (first.0 ∙ ap (λ xs. r ∷ xs) rest.0, first.1 ∙ rest.1)

-- what stood before a place, and what came before the key's, the key's rows and the rest
pub put_in_place : (key : ℕ) (rows : List Row) (out begun rest left : List KeyRows) → AreBelow begun key → out ≡ begun ++ (filter (is_below key) rest ++ rows_of_key key rows) → left ≡ filter (is_above key) rest → out ++ left ≡ put_rows key rows (begun ++ rest)
put_in_place key rows out begun rest left below is are =
    let stay = below_stays key begun below in
    ap (λ xs. xs ++ left) is ∙ ap (λ xs. (begun ++ (filter (is_below key) rest ++ rows_of_key key rows)) ++ xs) are
    ∙ append_assoc begun (filter (is_below key) rest ++ rows_of_key key rows) (filter (is_above key) rest)
    ∙ ap (λ xs. begun ++ xs) (append_assoc (filter (is_below key) rest) (rows_of_key key rows) (filter (is_above key) rest))
    ∙ sym (append_assoc begun (filter (is_below key) rest) (rows_of_key key rows ++ filter (is_above key) rest))
    ∙ ap (λ xs. (xs ++ filter (is_below key) rest) ++ (rows_of_key key rows ++ filter (is_above key) rest)) (sym stay.0)
    ∙ ap (λ xs. xs ++ (rows_of_key key rows ++ filter (is_above key) rest)) (sym (filter-append (is_below key) begun rest))
    ∙ ap (λ xs. filter (is_below key) (begun ++ rest) ++ (rows_of_key key rows ++ (xs ++ filter (is_above key) rest))) (sym stay.1)
    ∙ ap (λ xs. filter (is_below key) (begun ++ rest) ++ (rows_of_key key rows ++ xs)) (sym (filter-append (is_above key) begun rest))
