-- How ranges stand to rows and to one another.
use Rattle.std.proofs.Common.{◌≡◌, ◌≢◌, ℕ, suc, ◌<◌, ◌≤◌, Bool, true, false, ◌&&◌, [], ◌∷◌, ◌++◌, length, refl, sym, ap, ◌∙◌, subst, arith, inl, inr}
use mathlib.Core.Bool.{true≢false}
use Rattle.std.specs.Prelude.{nat_le, nat_lt, ◌==◌, if◌then◌else◌}
use Rattle.std.specs.Ordering.{nat_cmp, is_eq, is_gt, is_lt, ordering_then, MatchOrdering}
use Rattle.std.specs.declared.cmp.Ordering.{Ordering}
use Rattle.std.specs.declared.cmp.Ordering.TheVariants.{Less, Equal, Greater}
use Rattle.std.specs.Cmp.{ranks, nat_cmp_is}
use Rattle.std.proofs.lemmas.Cmp.{upto, alike_right}
use Rattle.std.proofs.lemmas.Bool.{and_parts, and_from, and_right, eqb-true, eq-eqb, ne_eqb, leb-true, le-leb, lt-ltb, le-ltb, cases_lt, false_from_ne_true}
use Rattle.lt_face.specs.Rows.{row_cmp}
use Rattle.lt_face.specs.State.{Row}
use Rattle.lt_face.proofs.RowLemmas.{rows_total}
use Rattle.lt_sense.specs.declared.covering.KeptGap.{KeptGap}
use Rattle.lt_sense.specs.Sense.{lies_in}
use Rattle.lt_sense.specs.Apart.{first_of, end_of, stands, IsApart}
use Rattle.lt_sense.proofs.Sorted.{less_up}

-- how two numbers stand, each way with what it says
by_numbers : (C : Ordering → Bool → Type 0) (p x : ℕ) → (p < x → C Less false) → (p ≡ x → C Equal true) → (x < p → C Greater false) → C (nat_cmp p x) (p == x)
by_numbers C p x l e g = by (nat_cmp p x) (ranks p x)
  where
    by : (o : Ordering) → MatchOrdering o (p < x) (p ≡ x) (x < p) → C o (p == x)
    by Less m = subst (C Less) (sym (ne_eqb p x (λ q. absurd (omega (arith, m, q))))) (l m)
    by Equal m = subst (C Equal) (sym (eq-eqb p x m)) (e m)
    by Greater m = subst (C Greater) (sym (ne_eqb p x (λ q. absurd (omega (arith, m, q))))) (g m)

greater_is : (a b : ℕ) → b < a → nat_cmp a b ≡ Greater
greater_is a b lt = sym (nat_cmp_is a b Greater lt)

lt_le : (lo x : ℕ) → x < lo → nat_le lo x ≡ false
lt_le lo x lt = false_from_ne_true (nat_le lo x) (λ q. absurd (let r = leb-true lo x q in omega (arith, r, lt)))

-- ---- a range and a row

-- it has the row where it neither begins above it nor ends before it
pub stands_in : (prefix : Row) (lo hi : ℕ) (cells : Row) → is_eq (stands prefix lo hi cells) ≡ lies_in prefix lo hi cells
stands_in prefix lo hi [] = refl
stands_in [] lo hi (x ∷ xs) = elim (cases_lt x lo) [
  | inl below ↦ rw (lt-ltb x lo below, lt_le lo x below) refl
  | inr from ↦ rw (le-ltb x lo from, le-leb lo x from) (by (nat_lt x hi))
]
  where
    by : (b : Bool) → is_eq (if b then Equal else Less) ≡ b
    by true = refl
    by false = refl
stands_in (p ∷ ps) lo hi (x ∷ xs) = by_numbers (λ o b. is_eq (ordering_then o (stands ps lo hi xs)) ≡ (b && lies_in ps lo hi xs)) p x (λ l. refl) (λ e. stands_in ps lo hi xs) (λ g. refl)

-- it is above the row where it begins above it
pub stands_above : (prefix : Row) (lo hi : ℕ) (cells : Row) → is_gt (stands prefix lo hi cells) ≡ is_gt (row_cmp (prefix ++ lo ∷ []) cells)
stands_above [] lo hi [] = refl
stands_above (p ∷ ps) lo hi [] = refl
stands_above [] lo hi (x ∷ xs) = elim (cases_lt x lo) [
  | inl below ↦ rw (lt-ltb x lo below, greater_is lo x below) refl
  | inr from ↦ rw (le-ltb x lo from) (never (nat_lt x hi) ∙ sym (low (nat_cmp lo x) (ranks lo x) xs from))
]
  where
    never : (b : Bool) → is_gt (if b then Equal else Less) ≡ false
    never true = refl
    never false = refl

    low : (o : Ordering) → MatchOrdering o (lo < x) (lo ≡ x) (x < lo) → (ys : Row) → lo ≤ x → is_gt (ordering_then o (row_cmp [] ys)) ≡ false
    low Less m ys le = refl
    low Equal m [] le = refl
    low Equal m (y ∷ ys) le = refl
    low Greater m ys le = absurd (omega (arith, m, le))
stands_above (p ∷ ps) lo hi (x ∷ xs) =
    by_numbers (λ o b. is_gt (ordering_then o (stands ps lo hi xs)) ≡ is_gt (ordering_then o (row_cmp (ps ++ lo ∷ []) xs))) p x (λ l. refl) (λ e. stands_above ps lo hi xs) (λ g. refl)

-- what begins above a row hasn't it
lies_above : (prefix : Row) (lo hi : ℕ) (cells : Row) → is_gt (row_cmp (prefix ++ lo ∷ []) cells) ≡ true → lies_in prefix lo hi cells ≡ false
lies_above prefix lo hi cells above = sym (stands_in prefix lo hi cells) ∙ by (stands prefix lo hi cells) (stands_above prefix lo hi cells ∙ above)
  where
    by : (o : Ordering) → is_gt o ≡ true → is_eq o ≡ false
    by Less h = refl
    by Equal h = absurd (true≢false (sym h))
    by Greater h = refl

-- nor does what has ended before it
lies_past : (prefix : Row) (lo hi : ℕ) (cells : Row) → is_gt (row_cmp (prefix ++ hi ∷ []) cells) ≡ false → lies_in prefix lo hi cells ≡ false
lies_past prefix lo hi [] past = refl
lies_past [] lo hi (x ∷ xs) past = elim (cases_lt x hi) [
  | inl below ↦ absurd (true≢false (sym (ap (λ o. is_gt (ordering_then o (row_cmp [] xs))) (greater_is hi x below)) ∙ past))
  | inr from ↦ and_right (nat_le lo x) (nat_lt x hi) (le-ltb x hi from)
]
lies_past (p ∷ ps) lo hi (x ∷ xs) past =
    by_numbers (λ o b. is_gt (ordering_then o (row_cmp (ps ++ hi ∷ []) xs)) ≡ false → (b && lies_in ps lo hi xs) ≡ false) p x (λ l h. refl) (λ e h. lies_past ps lo hi xs h) (λ g h. refl) past

-- ---- a range before another

less_upto : (x y z : Row) → row_cmp x y ≡ Less → is_gt (row_cmp y z) ≡ false → row_cmp x z ≡ Less
less_upto x y z l u = by (row_cmp y z) refl u
  where
    by : (o : Ordering) → row_cmp y z ≡ o → is_gt o ≡ false → row_cmp x z ≡ Less
    by Less e h = rows_total.trans x y z l e
    by Equal e h = sym (alike_right rows_total y z x e) ∙ l
    by Greater e h = absurd (true≢false h)

pub apart_chain : (a b c : KeptGap) → IsApart a b → IsApart b c → IsApart a c
apart_chain a b c h k = record {
  order = upto rows_total (first_of a) (first_of b) (first_of c) h.order k.order;
  apart = less_upto (end_of a) (first_of b) (first_of c) h.apart k.order;
}

-- none before one that doesn't begin above the row has it
pub none_before : (a b : KeptGap) (cells : Row) → IsApart a b → is_gt (stands b.prefix b.lo b.hi cells) ≡ false → lies_in a.prefix a.lo a.hi cells ≡ false
none_before a b cells h below =
    lies_past a.prefix a.lo a.hi cells (upto rows_total (end_of a) (first_of b) cells (less_up (row_cmp (end_of a) (first_of b)) h.apart) (sym (stands_above b.prefix b.lo b.hi cells) ∙ below))

-- none behind one that begins above the row has it
pub none_behind : (a b : KeptGap) (cells : Row) → IsApart a b → is_gt (stands a.prefix a.lo a.hi cells) ≡ true → lies_in b.prefix b.lo b.hi cells ≡ false
none_behind a b cells h above = lies_above b.prefix b.lo b.hi cells (by (is_gt (row_cmp (first_of b) cells)) refl)
  where
    by : (t : Bool) → is_gt (row_cmp (first_of b) cells) ≡ t → is_gt (row_cmp (first_of b) cells) ≡ true
    by true e = e
    by false e = absurd (true≢false (sym above ∙ stands_above a.prefix a.lo a.hi cells ∙ upto rows_total (first_of a) (first_of b) cells h.order e))

-- ---- ranges that meet

-- under one prefix the later begins within the other or adjoins it
pub meets_beside : (p q : Row) (lo hi l : ℕ) → is_gt (row_cmp (p ++ lo ∷ []) (q ++ l ∷ [])) ≡ false → is_lt (row_cmp (p ++ hi ∷ []) (q ++ l ∷ [])) ≡ false → length p ≡ length q → (p ≡ q) × (lo ≤ l) × (l ≤ hi)
meets_beside [] [] lo hi l up on long = (refl, from (nat_cmp lo l) (ranks lo l) up, upon (nat_cmp hi l) (ranks hi l) on)
  where
    from : (o : Ordering) → MatchOrdering o (lo < l) (lo ≡ l) (l < lo) → is_gt (ordering_then o Equal) ≡ false → lo ≤ l
    from Less m h = omega (arith, m)
    from Equal m h = omega (arith, m)
    from Greater m h = absurd (true≢false h)

    upon : (o : Ordering) → MatchOrdering o (hi < l) (hi ≡ l) (l < hi) → is_lt (ordering_then o Equal) ≡ false → l ≤ hi
    upon Less m h = absurd (true≢false h)
    upon Equal m h = omega (arith, m)
    upon Greater m h = omega (arith, m)
meets_beside [] (y ∷ ys) lo hi l up on long = absurd (omega (arith, long))
meets_beside (x ∷ xs) [] lo hi l up on long = absurd (omega (arith, long))
meets_beside (x ∷ xs) (y ∷ ys) lo hi l up on long = by (λ u o. meets_beside xs ys lo hi l u o (omega (arith, long))) (nat_cmp x y) (ranks x y) up on
  where
    by : (is_gt (row_cmp (xs ++ lo ∷ []) (ys ++ l ∷ [])) ≡ false → is_lt (row_cmp (xs ++ hi ∷ []) (ys ++ l ∷ [])) ≡ false → (xs ≡ ys) × (lo ≤ l) × (l ≤ hi))
        → (o : Ordering) → MatchOrdering o (x < y) (x ≡ y) (y < x) → is_gt (ordering_then o (row_cmp (xs ++ lo ∷ []) (ys ++ l ∷ []))) ≡ false → is_lt (ordering_then o (row_cmp (xs ++ hi ∷ []) (ys ++ l ∷ []))) ≡ false → ((x ∷ xs) ≡ (y ∷ ys)) × (lo ≤ l) × (l ≤ hi)
    by rest Less m u o = absurd (true≢false o)
    by rest Equal m u o = (let r = rest u o in (ap (λ z. z ∷ xs) m ∙ ap (λ zs. y ∷ zs) r.0, r.1, r.2))
    by rest Greater m u o = absurd (true≢false u)

-- else the later lies within the other
pub meets_within : (p q : Row) (lo hi l h : ℕ) → is_gt (row_cmp (p ++ lo ∷ []) (q ++ l ∷ [])) ≡ false → is_lt (row_cmp (p ++ hi ∷ []) (q ++ l ∷ [])) ≡ false → length p ≢ length q → (cells : Row) → lies_in q l h cells ≡ true → lies_in p lo hi cells ≡ true
meets_within p q lo hi l h up on other [] has = absurd (true≢false (sym has))
meets_within [] [] lo hi l h up on other (c ∷ cs) has = absurd (other refl)
meets_within [] (y ∷ ys) lo hi l h up on other (c ∷ cs) has =
    let parts = and_parts (y == c) (lies_in ys l h cs) has in
    let e : y ≡ c = eqb-true y c parts.0 in
    let from = low (nat_cmp lo y) (ranks lo y) up in
    let past = high (nat_cmp hi y) (ranks hi y) on in
    and_from (nat_le lo c) (nat_lt c hi) (le-leb lo c (omega (arith, e, from))) (lt-ltb c hi (omega (arith, e, past)))
  where
    some_behind : (zs : Row) → row_cmp [] (zs ++ l ∷ []) ≡ Less
    some_behind [] = refl
    some_behind (z ∷ zs) = refl

    low : (o : Ordering) → MatchOrdering o (lo < y) (lo ≡ y) (y < lo) → is_gt (ordering_then o (row_cmp [] (ys ++ l ∷ []))) ≡ false → lo ≤ y
    low Less m h = omega (arith, m)
    low Equal m h = omega (arith, m)
    low Greater m h = absurd (true≢false h)

    high : (o : Ordering) → MatchOrdering o (hi < y) (hi ≡ y) (y < hi) → is_lt (ordering_then o (row_cmp [] (ys ++ l ∷ []))) ≡ false → y < hi
    high Less m h = absurd (true≢false h)
    high Equal m h = absurd (true≢false (sym (ap is_lt (some_behind ys)) ∙ h))
    high Greater m h = omega (arith, m)
meets_within (x ∷ xs) [] lo hi l h up on other (c ∷ cs) has = by (nat_cmp x l) (ranks x l) up on
  where
    some_first : (zs : Row) (k : ℕ) → row_cmp (zs ++ k ∷ []) [] ≡ Greater
    some_first [] k = refl
    some_first (z ∷ zs) k = refl

    by : (o : Ordering) → MatchOrdering o (x < l) (x ≡ l) (l < x) → is_gt (ordering_then o (row_cmp (xs ++ lo ∷ []) [])) ≡ false → is_lt (ordering_then o (row_cmp (xs ++ hi ∷ []) [])) ≡ false → lies_in (x ∷ xs) lo hi (c ∷ cs) ≡ true
    by Less m u o = absurd (true≢false o)
    by Equal m u o = absurd (true≢false (sym (ap is_gt (some_first xs lo)) ∙ u))
    by Greater m u o = absurd (true≢false u)
meets_within (x ∷ xs) (y ∷ ys) lo hi l h up on other (c ∷ cs) has = by (λ u o k. meets_within xs ys lo hi l h u o (λ e. other (ap suc e)) cs k) (nat_cmp x y) (ranks x y) up on
  where
    by : (is_gt (row_cmp (xs ++ lo ∷ []) (ys ++ l ∷ [])) ≡ false → is_lt (row_cmp (xs ++ hi ∷ []) (ys ++ l ∷ [])) ≡ false → lies_in ys l h cs ≡ true → lies_in xs lo hi cs ≡ true)
        → (o : Ordering) → MatchOrdering o (x < y) (x ≡ y) (y < x) → is_gt (ordering_then o (row_cmp (xs ++ lo ∷ []) (ys ++ l ∷ []))) ≡ false → is_lt (ordering_then o (row_cmp (xs ++ hi ∷ []) (ys ++ l ∷ []))) ≡ false → ((x == c) && lies_in xs lo hi cs) ≡ true
    by rest Less m u o = absurd (true≢false o)
    by rest Equal m u o =
        let parts = and_parts (y == c) (lies_in ys l h cs) has in
        and_from (x == c) (lies_in xs lo hi cs) (ap (λ z. z == c) m ∙ parts.0) (rest u o parts.1)
    by rest Greater m u o = absurd (true≢false u)
