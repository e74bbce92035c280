-- Keys that ascend: where a bound lies among them, and what ranges leave of them.
use Rattle.std.proofs.Common.{◌≡◌, ℕ, zero, suc, ◌+◌, ◌<◌, ◌≤◌, Bool, true, false, not, ◌&&◌, ◌||◌, List, [], ◌∷◌, length, get_or, nat_lt, refl, sym, ap, ◌∙◌, arith, inl, inr, ◌⊎◌}
use Rattle.std.specs.Prelude.{◌==◌}
use Rattle.std.specs.List.{AllByRecursion}
use mathlib.Core.Bool.{true≢false}
use Rattle.std.proofs.lemmas.Bool.{and_parts, and_from, eqb-true, eq-eqb, ltb-true, ltb-false}
use Rattle.lt_face.specs.Lists.{AreInOrder}
use Rattle.lt_face.specs.State.{Row, permuted}
use Rattle.lt_sense.specs.declared.covering.KeptGap.{KeptGap}
use Rattle.lt_sense.specs.ByKey.{has_key}
use Rattle.lt_sense.specs.ByKeyTold.{begins_in, HaveBut, IsBelowPlace, IsNextOf}
use Rattle.lt_sense.specs.Sense.{gap_covers, lies_in}
use Rattle.lt_sense.specs.Spans.{have, HaveAlso}
use Rattle.lt_sense.proofs.Spanned.{between, between_is, is_between, lies_nowhere, or_none, range_in, same_test}

-- ---- keys

above_all : (x : ℕ) (xs : List ℕ) (j : ℕ) → AllByRecursion (λ y. x < y) xs → j < length xs → x < get_or xs j 0
above_all x [] j all lt = absurd (omega (arith, lt))
above_all x (y ∷ ys) zero all lt = all.0
above_all x (y ∷ ys) (suc j) all lt = above_all x ys j all.1 (omega (arith, lt))

pub ascend : (keys : List ℕ) (i j : ℕ) → AreInOrder (λ a b. a < b) keys → i ≤ j → j < length keys → get_or keys i 0 ≤ get_or keys j 0
ascend [] i j order le lt = absurd (omega (arith, lt))
ascend (x ∷ xs) zero zero order le lt = omega arith
ascend (x ∷ xs) zero (suc j) order le lt = (let a = above_all x xs j order.0 (omega (arith, lt)) in omega (arith, a))
ascend (x ∷ xs) (suc i) zero order le lt = absurd (omega (arith, le))
ascend (x ∷ xs) (suc i) (suc j) order le lt = ascend xs i j order.1 (omega (arith, le)) (omega (arith, lt))

or_right : (a b : Bool) → b ≡ true → (a || b) ≡ true
or_right true b e = refl
or_right false b e = e

has_at_place : (keys : List ℕ) (i key : ℕ) → i < length keys → get_or keys i 0 ≡ key → has_key keys key ≡ true
has_at_place [] i key lt is = absurd (omega (arith, lt))
has_at_place (x ∷ xs) zero key lt is = ap (λ b. b || has_key xs key) (eq-eqb x key is)
has_at_place (x ∷ xs) (suc i) key lt is = or_right (x == key) (has_key xs key) (has_at_place xs i key (omega (arith, lt)) is)

place_of_key : (keys : List ℕ) (key : ℕ) → has_key keys key ≡ true → (i : ℕ) × (i < length keys) × (get_or keys i 0 ≡ key)
place_of_key [] key has = absurd (true≢false (sym has))
place_of_key (x ∷ xs) key has = by (x == key) refl has (place_of_key xs key)
  where
    by : (b : Bool) → b ≡ (x == key) → (b || has_key xs key) ≡ true → (has_key xs key ≡ true → (i : ℕ) × (i < length xs) × (get_or xs i 0 ≡ key)) → (i : ℕ) × (i < length (x ∷ xs)) × (get_or (x ∷ xs) i 0 ≡ key)
    by true e has later = (0, omega arith, eqb-true x key (sym e))
    by false e has later = (let q = later has in (let lt = q.1 in (suc q.0, omega (arith, lt), q.2)))

is_false : (b : Bool) → (b ≡ true → ⊥) → b ≡ false
is_false true f = absurd (f refl)
is_false false f = refl

-- ---- the search

which : (a b : ℕ) → (a < b) ⊎ (b ≤ a)
which a b = by (nat_lt a b) refl
  where
    by : (t : Bool) → t ≡ nat_lt a b → (a < b) ⊎ (b ≤ a)
    by true e = inl (ltb-true a b (sym e))
    by false e = inr (ltb-false a b (sym e))

pub place_low : (keys : List ℕ) (bound low middle : ℕ) → AreInOrder (λ a b. a < b) keys → middle < length keys → get_or keys middle 0 < bound → (i : ℕ) → i < middle + 1 → get_or keys i 0 < bound
place_low keys bound low middle order within below i lt = (let a = ascend keys i middle order (omega (arith, lt)) within in omega (arith, a, below))

pub place_high : (keys : List ℕ) (bound middle : ℕ) → AreInOrder (λ a b. a < b) keys → bound ≤ get_or keys middle 0 → (i : ℕ) → middle ≤ i → i < length keys → bound ≤ get_or keys i 0
place_high keys bound middle order from i le lt = (let a = ascend keys middle i order le lt in omega (arith, a, from))

-- a key that is there stands at its place
pub among_none : (keys : List ℕ) (key at : ℕ) → IsBelowPlace keys key at → length keys ≤ at → false ≡ has_key keys key
among_none keys key at place all = sym (is_false (has_key keys key) (λ has. let q = place_of_key keys key has in let lt = q.1 in let b = place.before q.0 (omega (arith, lt, all)) in let e = q.2 in omega (arith, b, e)))

pub among_there : (keys : List ℕ) (key at : ℕ) → AreInOrder (λ a b. a < b) keys → IsBelowPlace keys key at → at < length keys → (get_or keys at 0 == key) ≡ has_key keys key
among_there keys key at order place lt = same_test (get_or keys at 0 == key) (has_key keys key) (λ e. has_at_place keys at key lt (eqb-true (get_or keys at 0) key e)) back
  where
    at_it : (i : ℕ) → i < length keys → get_or keys i 0 ≡ key → (i < at) ⊎ (at ≤ i) → (get_or keys at 0 == key) ≡ true
    at_it i lt_i is (inl lower) = (let b = place.before i lower in absurd (omega (arith, b, is)))
    at_it i lt_i is (inr le) = (let a = ascend keys at i order le lt_i in let b = place.behind at (omega arith) lt in eq-eqb (get_or keys at 0) key (omega (arith, a, b, is)))

    back : has_key keys key ≡ true → (get_or keys at 0 == key) ≡ true
    back has = (let q = place_of_key keys key has in at_it q.0 q.1 q.2 (which q.0 at))

-- no key lies from the bound to below a number that all keys behind its place reach
none_between : (keys : List ℕ) (lo at next : ℕ) → IsBelowPlace keys lo at → ((i : ℕ) → at ≤ i → i < length keys → next ≤ get_or keys i 0) → (k : ℕ) → lo ≤ k → k < next → has_key keys k ≡ false
none_between keys lo at next place reach k low high = is_false (has_key keys k) (λ has. let q = place_of_key keys k has in by q.0 q.1 q.2 (which q.0 at))
  where
    by : (i : ℕ) → i < length keys → get_or keys i 0 ≡ k → (i < at) ⊎ (at ≤ i) → ⊥
    by i lt is (inl lower) = (let b = place.before i lower in omega (arith, b, is, low))
    by i lt is (inr le) = (let r = reach i le lt in omega (arith, r, is, high))

pub next_none : (keys : List ℕ) (lo hi at : ℕ) → lo < hi → IsBelowPlace keys lo at → length keys ≤ at → IsNextOf keys lo hi hi
next_none keys lo hi at lt place all = record {
  from = omega (arith, lt);
  upto = omega arith;
  none = none_between keys lo at hi place (λ i le within. absurd (omega (arith, all, le, within)));
  there = λ less. absurd (omega (arith, less));
}

pub next_far : (keys : List ℕ) (lo hi at : ℕ) → AreInOrder (λ a b. a < b) keys → lo < hi → IsBelowPlace keys lo at → hi ≤ get_or keys at 0 → IsNextOf keys lo hi hi
next_far keys lo hi at order lt place far = record {
  from = omega (arith, lt);
  upto = omega arith;
  none = none_between keys lo at hi place (λ i le within. let a = ascend keys at i order le within in omega (arith, a, far));
  there = λ less. absurd (omega (arith, less));
}

pub next_there : (keys : List ℕ) (lo hi at : ℕ) → AreInOrder (λ a b. a < b) keys → IsBelowPlace keys lo at → at < length keys → get_or keys at 0 < hi → IsNextOf keys lo hi (get_or keys at 0)
next_there keys lo hi at order place lt near = record {
  from = place.behind at (omega arith) lt;
  upto = omega (arith, near);
  none = none_between keys lo at (get_or keys at 0) place (λ i le within. ascend keys at i order le within);
  there = λ less. has_at_place keys at (get_or keys at 0) lt refl;
}

-- ---- ranges but for keys

not_true : (b : Bool) → not b ≡ true → b ≡ false
not_true true e = sym e
not_true false e = refl

true_not : (b : Bool) → b ≡ false → not b ≡ true
true_not true e = sym e
true_not false e = refl

or_left : (a b : Bool) → a ≡ true → (a || b) ≡ true
or_left true b e = refl
or_left false b e = absurd (true≢false (sym e))

or_elim : {P : Type 0} (a b : Bool) → (a || b) ≡ true → (a ≡ true → P) → (b ≡ true → P) → P
or_elim true b e f g = f refl
or_elim false b e f g = g e

-- the numbers up to the next key
upto_number : (keys : List ℕ) (lo from hi next x : ℕ) → lo ≤ from → IsNextOf keys from hi next → ((between lo from x && not (has_key keys x)) || between from next x) ≡ (between lo next x && not (has_key keys x))
upto_number keys lo from hi next x low is = same_test _ _ there back
  where
    there : ((between lo from x && not (has_key keys x)) || between from next x) ≡ true → (between lo next x && not (has_key keys x)) ≡ true
    there h =
        or_elim (between lo from x && not (has_key keys x)) (between from next x) h
        (λ e. let q = and_parts (between lo from x) (not (has_key keys x)) e in let p = between_is lo from x q.0 in let f = is.from in and_from (between lo next x) (not (has_key keys x)) (is_between lo next x p.0 (omega (arith, p.1, f))) q.1)
        (λ e. let p = between_is from next x e in and_from (between lo next x) (not (has_key keys x)) (is_between lo next x (omega (arith, p.0, low)) p.1) (true_not (has_key keys x) (is.none x p.0 p.1)))

    on : (x < from) ⊎ (from ≤ x) → lo ≤ x → x < next → not (has_key keys x) ≡ true → ((between lo from x && not (has_key keys x)) || between from next x) ≡ true
    on (inl lt) a b e = or_left (between lo from x && not (has_key keys x)) (between from next x) (and_from (between lo from x) (not (has_key keys x)) (is_between lo from x a lt) e)
    on (inr le) a b e = or_right (between lo from x && not (has_key keys x)) (between from next x) (is_between from next x le b)

    back : (between lo next x && not (has_key keys x)) ≡ true → ((between lo from x && not (has_key keys x)) || between from next x) ≡ true
    back h = (let q = and_parts (between lo next x) (not (has_key keys x)) h in let p = between_is lo next x q.0 in on (which x from) p.0 p.1 q.1)

-- a key more or less makes no difference
past_number : (keys : List ℕ) (lo next x : ℕ) → has_key keys next ≡ true → (between lo next x && not (has_key keys x)) ≡ (between lo (next + 1) x && not (has_key keys x))
past_number keys lo next x has = same_test _ _ there back
  where
    there : (between lo next x && not (has_key keys x)) ≡ true → (between lo (next + 1) x && not (has_key keys x)) ≡ true
    there h = (let q = and_parts (between lo next x) (not (has_key keys x)) h in let p = between_is lo next x q.0 in and_from (between lo (next + 1) x) (not (has_key keys x)) (is_between lo (next + 1) x p.0 (omega (arith, p.1))) q.1)

    on : (x < next) ⊎ (next ≤ x) → lo ≤ x → x < next + 1 → not (has_key keys x) ≡ true → (between lo next x && not (has_key keys x)) ≡ true
    on (inl lt) a b e = and_from (between lo next x) (not (has_key keys x)) (is_between lo next x a lt) e
    on (inr le) a b e = (let same : x ≡ next = omega (arith, le, b) in absurd (true≢false (sym has ∙ ap (has_key keys) (sym same) ∙ not_true (has_key keys x) e)))

    back : (between lo (next + 1) x && not (has_key keys x)) ≡ true → (between lo next x && not (has_key keys x)) ≡ true
    back h = (let q = and_parts (between lo (next + 1) x) (not (has_key keys x)) h in let p = between_is lo (next + 1) x q.0 in on (which x next) p.0 p.1 q.1)

upto_cells : (keys : List ℕ) (r : Bool) (lo from hi next : ℕ) (cells : Row) → lo ≤ from → IsNextOf keys from hi next
    → (((r && lies_in [] lo from cells) && not (begins_in keys cells)) || (r && lies_in [] from next cells)) ≡ ((r && lies_in [] lo next cells) && not (begins_in keys cells))
upto_cells keys false lo from hi next cells low is = refl
upto_cells keys true lo from hi next [] low is = refl
upto_cells keys true lo from hi next (x ∷ xs) low is = upto_number keys lo from hi next x low is

past_cells : (keys : List ℕ) (r : Bool) (lo next : ℕ) (cells : Row) → has_key keys next ≡ true → ((r && lies_in [] lo next cells) && not (begins_in keys cells)) ≡ ((r && lies_in [] lo (next + 1) cells) && not (begins_in keys cells))
past_cells keys false lo next cells has = refl
past_cells keys true lo next [] has = refl
past_cells keys true lo next (x ∷ xs) has = past_number keys lo next x has

or_right_of : (a b c : Bool) → ((a || b) || c) ≡ (a || (b || c))
or_right_of true b c = refl
or_right_of false b c = refl

pub but_begun : (keys : List ℕ) (n : ℕ) (columns : List ℕ) (prefix : Row) (lo hi : ℕ) (ranges : List KeptGap) → hi ≤ lo → HaveBut keys ranges ranges (range_in n columns prefix lo hi)
but_begun keys n columns prefix lo hi ranges le relation row below =
    sym (or_none (have ranges relation row))
    ∙ ap (λ b. have ranges relation row || b) (sym (ap (λ b. (n == relation && b) && not (begins_in keys (permuted columns row))) (lies_nowhere prefix lo hi le (permuted columns row)) ∙ none (n == relation) (not (begins_in keys (permuted columns row)))))
  where
    none : (a b : Bool) → ((a && false) && b) ≡ false
    none true b = refl
    none false b = refl

pub but_upto : (keys : List ℕ) (n : ℕ) (columns : List ℕ) (lo from hi next : ℕ) (a b c : List KeptGap) → lo ≤ from → IsNextOf keys from hi next → HaveBut keys a b (range_in n columns [] lo from) → HaveAlso b c (range_in n columns [] from next) → HaveBut keys a c (range_in n columns [] lo next)
but_upto keys n columns lo from hi next a b c low is but also relation row below =
    also relation row below
    ∙ ap (λ x. x || gap_covers (range_in n columns [] from next) relation row) (but relation row below)
    ∙ or_right_of (have a relation row) (gap_covers (range_in n columns [] lo from) relation row && not (begins_in keys (permuted columns row))) (gap_covers (range_in n columns [] from next) relation row)
    ∙ ap (λ x. have a relation row || x) (upto_cells keys (n == relation) lo from hi next (permuted columns row) low is)

pub but_past : (keys : List ℕ) (n : ℕ) (columns : List ℕ) (lo next : ℕ) (a b : List KeptGap) → has_key keys next ≡ true → HaveBut keys a b (range_in n columns [] lo next) → HaveBut keys a b (range_in n columns [] lo (next + 1))
but_past keys n columns lo next a b has but relation row below = but relation row below ∙ ap (λ x. have a relation row || x) (past_cells keys (n == relation) lo next (permuted columns row) has)

-- ---- a range under a prefix

first_in : (keys : List ℕ) (p : ℕ) (ps : Row) (lo hi : ℕ) (cells : Row) → lies_in (p ∷ ps) lo hi cells ≡ true → begins_in keys cells ≡ has_key keys p
first_in keys p ps lo hi [] is = absurd (true≢false (sym is))
first_in keys p ps lo hi (x ∷ xs) is = (let e : p ≡ x = eqb-true p x (and_parts (p == x) (lies_in ps lo hi xs) is).0 in ap (has_key keys) (sym e))

pub but_skipped : (keys : List ℕ) (n : ℕ) (columns : List ℕ) (p : ℕ) (ps : Row) (lo hi : ℕ) (a : List KeptGap) → has_key keys p ≡ true → HaveBut keys a a (range_in n columns (p ∷ ps) lo hi)
but_skipped keys n columns p ps lo hi a has relation row below = sym (or_none (have a relation row)) ∙ ap (λ b. have a relation row || b) (sym (by (lies_in (p ∷ ps) lo hi cells) refl (n == relation)))
  where
    cells : Row
    cells = permuted columns row

    by : (b : Bool) → b ≡ lies_in (p ∷ ps) lo hi cells → (r : Bool) → ((r && b) && not (begins_in keys cells)) ≡ false
    by b e false = refl
    by false e true = refl
    by true e true = ap not (first_in keys p ps lo hi cells (sym e) ∙ has)

pub but_taken : (keys : List ℕ) (n : ℕ) (columns : List ℕ) (p : ℕ) (ps : Row) (lo hi : ℕ) (a b : List KeptGap) → has_key keys p ≡ false → HaveAlso a b (range_in n columns (p ∷ ps) lo hi) → HaveBut keys a b (range_in n columns (p ∷ ps) lo hi)
but_taken keys n columns p ps lo hi a b has also relation row below = also relation row below ∙ ap (λ x. have a relation row || x) (by (lies_in (p ∷ ps) lo hi cells) refl (n == relation))
  where
    cells : Row
    cells = permuted columns row

    by : (t : Bool) → t ≡ lies_in (p ∷ ps) lo hi cells → (r : Bool) → (r && t) ≡ ((r && t) && not (begins_in keys cells))
    by t e false = refl
    by false e true = refl
    by true e true = sym (ap not (first_in keys p ps lo hi cells (sym e) ∙ has))
