-- Rows in ranges: ranges that adjoin, keys below which all was gone over, and ranges of an index that grow.
use Rattle.std.proofs.Common.{◌≡◌, ℕ, zero, suc, ◌+◌, ◌-◌, ◌<◌, ◌≤◌, Bool, true, false, ◌&&◌, ◌||◌, List, [], ◌∷◌, ◌++◌, map, length, take, get_or, slice_get, slice_index, Some, refl, sym, ap, ◌∙◌, subst, arith, inl, inr}
use mathlib.Core.Bool.{true≢false}
use Rattle.std.specs.Prelude.{nat_le, nat_lt, ◌==◌}
use Rattle.std.specs.List.{AllByRecursion}
use Rattle.std.proofs.lemmas.Bool.{and_parts, and_from, or_cases, or_left, or_right, eqb-true, eq-eqb, leb-true, le-leb, ltb-true, lt-ltb, cases_lt}
use Rattle.std.proofs.lemmas.List.{length-append, length-take-le, take-append-le}
use Rattle.std.proofs.lemmas.List.Folds.{list_any-append}
use Rattle.std.proofs.lemmas.Option.{slice_get-get_or}
use Rattle.lt_face.specs.Keys.{end_key}
use Rattle.lt_face.specs.State.{Row, permuted}
use Rattle.lt_face.specs.declared.key.Gap.{Gap}
use Rattle.lt_face.proofs.RowLemmas.{each_at, each_weaker}
use Rattle.lt_sense.specs.declared.covering.KeptGap.{KeptGap}
use Rattle.lt_sense.specs.declared.pieces.Piece.{Piece}
use Rattle.lt_sense.specs.declared.spans.Span.{Span}
use Rattle.lt_sense.specs.declared.spans.Spans.{Spans}
use Rattle.lt_sense.specs.Sense.{lies_in, gap_covers}
use Rattle.lt_sense.specs.Pieces.{piece_of, IsPiece}
use Rattle.lt_sense.specs.Spans.{have, AreBelowEnd, HaveSameRows, HaveAlso, prefix_in, still, growing, under, stills, ranges_of, IsSpans, GrowAlike}
use Rattle.lt_sense.proofs.Growth.{get_before, get_next, piece_before, piece_next, still_piece, longer}
use Rattle.lt_sense.proofs.Lies.{length_map, take_next, take_whole}

pub same_test : (a b : Bool) → (a ≡ true → b ≡ true) → (b ≡ true → a ≡ true) → a ≡ b
same_test true b f g = sym (f refl)
same_test false true f g = g refl
same_test false false f g = refl

-- ---- where a key lies

abbrev pub between : ℕ → ℕ → ℕ → Bool
between lo hi x = nat_le lo x && nat_lt x hi

pub is_between : (lo hi x : ℕ) → lo ≤ x → x < hi → between lo hi x ≡ true
is_between lo hi x p q = and_from (nat_le lo x) (nat_lt x hi) (le-leb lo x p) (lt-ltb x hi q)

pub between_is : (lo hi x : ℕ) → between lo hi x ≡ true → (lo ≤ x) × (x < hi)
between_is lo hi x k = let q = and_parts (nat_le lo x) (nat_lt x hi) k in (leb-true lo x q.0, ltb-true x hi q.1)

between_joined : (lo m hi x : ℕ) → lo ≤ m → m ≤ hi → between lo hi x ≡ (between lo m x || between m hi x)
between_joined lo m hi x a b = same_test (between lo hi x) (between lo m x || between m hi x) there back
  where
    there : between lo hi x ≡ true → (between lo m x || between m hi x) ≡ true
    there k =
        let q = between_is lo hi x k in
        elim (cases_lt x m) [
          | inl before ↦ or_left (between lo m x) (between m hi x) (is_between lo m x q.0 before)
          | inr from ↦ or_right (between lo m x) (between m hi x) (is_between m hi x from q.1)
        ]

    back : (between lo m x || between m hi x) ≡ true → between lo hi x ≡ true
    back k = elim (or_cases (between lo m x) (between m hi x) k) [
      | inl one ↦ (let q = between_is lo m x one in is_between lo hi x q.0 (omega (arith, q.1, b)))
      | inr other ↦ (let q = between_is m hi x other in is_between lo hi x (omega (arith, q.0, a)) q.1)
    ]

-- ranges that adjoin
pub lies_joined : (prefix : Row) (lo m hi : ℕ) → lo ≤ m → m ≤ hi → (cells : Row) → lies_in prefix lo hi cells ≡ (lies_in prefix lo m cells || lies_in prefix m hi cells)
lies_joined prefix lo m hi a b [] = refl
lies_joined [] lo m hi a b (x ∷ xs) = between_joined lo m hi x a b
lies_joined (p ∷ ps) lo m hi a b (x ∷ xs) = by (p == x) (lies_joined ps lo m hi a b xs)
  where
    by : (e : Bool) → lies_in ps lo hi xs ≡ (lies_in ps lo m xs || lies_in ps m hi xs) → (e && lies_in ps lo hi xs) ≡ ((e && lies_in ps lo m xs) || (e && lies_in ps m hi xs))
    by true h = h
    by false h = refl

-- a range within another
pub lies_within : (prefix : Row) (lo hi l h : ℕ) → lo ≤ l → h ≤ hi → (cells : Row) → lies_in prefix l h cells ≡ true → lies_in prefix lo hi cells ≡ true
lies_within prefix lo hi l h a b [] k = absurd (true≢false (sym k))
lies_within [] lo hi l h a b (x ∷ xs) k = let q = between_is l h x k in is_between lo hi x (omega (arith, q.0, a)) (omega (arith, q.1, b))
lies_within (p ∷ ps) lo hi l h a b (x ∷ xs) k =
    let q = and_parts (p == x) (lies_in ps l h xs) k in
    and_from (p == x) (lies_in ps lo hi xs) q.0 (lies_within ps lo hi l h a b xs q.1)

-- a range without keys
pub lies_nowhere : (prefix : Row) (lo hi : ℕ) → hi ≤ lo → (cells : Row) → lies_in prefix lo hi cells ≡ false
lies_nowhere prefix lo hi a cells = same_test (lies_in prefix lo hi cells) false (never prefix cells) (λ k. absurd (true≢false (sym k)))
  where
    never : (prefix : Row) (cells : Row) → lies_in prefix lo hi cells ≡ true → false ≡ true
    never prefix [] k = k
    never [] (x ∷ xs) k = let q = between_is lo hi x k in absurd (omega (arith, q.0, q.1, a))
    never (p ∷ ps) (x ∷ xs) k = never ps xs (and_parts (p == x) (lies_in ps lo hi xs) k).1

-- a key below which all was gone over
pub lies_whole : (prefix : Row) (k : ℕ) (cells : Row) → length prefix + 1 < length cells → AreBelowEnd cells → lies_in (prefix ++ k ∷ []) 0 end_key cells ≡ lies_in prefix k (k + 1) cells
lies_whole prefix k [] long below = absurd (omega arith)
lies_whole [] k (x ∷ []) long below = absurd (omega arith)
lies_whole [] k (x ∷ y ∷ ys) long below = same_test _ _ there back
  where
    there : ((k == x) && between 0 end_key y) ≡ true → between k (k + 1) x ≡ true
    there h = (let e : k ≡ x = eqb-true k x (and_parts (k == x) (between 0 end_key y) h).0 in is_between k (k + 1) x (omega (arith, e)) (omega (arith, e)))

    back : between k (k + 1) x ≡ true → ((k == x) && between 0 end_key y) ≡ true
    back h =
        let q = between_is k (k + 1) x h in
        let e : k ≡ x = omega (arith, q.0, q.1) in
        and_from (k == x) (between 0 end_key y) (eq-eqb k x e) (is_between 0 end_key y (omega arith) below.1.0)
lies_whole (p ∷ ps) k (x ∷ xs) long below = ap (λ b. (p == x) && b) (lies_whole ps k xs (omega (arith, long)) below.1)

pub index_below : (row : Row) (i : ℕ) → AreBelowEnd row → slice_index row i < end_key
index_below [] i below = (let e : 0 < end_key = omega arith in e)
index_below (x ∷ xs) zero below = below.0
index_below (x ∷ xs) (suc i) below = index_below xs i below.1

pub permuted_below : (columns : List ℕ) (row : Row) → AreBelowEnd row → AreBelowEnd (permuted columns row)
permuted_below [] row below = tt
permuted_below (c ∷ cs) row below = (index_below row c below, permuted_below cs row below)

-- ---- the same of the rows of an index

abbrev pub range_in : ℕ → List ℕ → Row → ℕ → ℕ → KeptGap
range_in relation columns prefix lo hi = record { relation = relation; columns = columns; prefix = prefix; lo = lo; hi = hi }

pub covers_joined : (n : ℕ) (columns : List ℕ) (prefix : Row) (lo m hi : ℕ) → lo ≤ m → m ≤ hi → (relation : ℕ) (row : Row) → gap_covers (range_in n columns prefix lo hi) relation row ≡ (gap_covers (range_in n columns prefix lo m) relation row || gap_covers (range_in n columns prefix m hi) relation row)
covers_joined n columns prefix lo m hi a b relation row = by (n == relation) _ _ _ (lies_joined prefix lo m hi a b (permuted columns row))
  where
    by : (e p q r : Bool) → p ≡ (q || r) → (e && p) ≡ ((e && q) || (e && r))
    by true p q r h = h
    by false p q r h = refl

pub covers_within : (n : ℕ) (columns : List ℕ) (prefix : Row) (lo hi l h : ℕ) → lo ≤ l → h ≤ hi → (relation : ℕ) (row : Row) → gap_covers (range_in n columns prefix l h) relation row ≡ true → gap_covers (range_in n columns prefix lo hi) relation row ≡ true
covers_within n columns prefix lo hi l h a b relation row k =
    let q = and_parts (n == relation) (lies_in prefix l h (permuted columns row)) k in
    and_from (n == relation) (lies_in prefix lo hi (permuted columns row)) q.0 (lies_within prefix lo hi l h a b (permuted columns row) q.1)

pub covers_nothing : (n : ℕ) (columns : List ℕ) (prefix : Row) (lo hi : ℕ) → hi ≤ lo → (relation : ℕ) (row : Row) → gap_covers (range_in n columns prefix lo hi) relation row ≡ false
covers_nothing n columns prefix lo hi a relation row = by (n == relation) _ (lies_nowhere prefix lo hi a (permuted columns row))
  where
    by : (e p : Bool) → p ≡ false → (e && p) ≡ false
    by true p h = h
    by false p h = refl

pub covers_whole : (n : ℕ) (columns : List ℕ) (prefix : Row) (k : ℕ) → length prefix + 1 < length columns → (relation : ℕ) (row : Row) → AreBelowEnd row → gap_covers (range_in n columns (prefix ++ k ∷ []) 0 end_key) relation row ≡ gap_covers (range_in n columns prefix k (k + 1)) relation row
covers_whole n columns prefix k long relation row below =
    let wide = length_map (λ c. slice_index row c) columns in
    ap (λ b. (n == relation) && b) (lies_whole prefix k (permuted columns row) (omega (arith, wide, long)) (permuted_below columns row below))

-- ---- ranges that don't grow

map_same : {X Y : Type 0} (f g : X → Y) (xs : List X) → AllByRecursion (λ x. f x ≡ g x) xs → map f xs ≡ map g xs
map_same f g [] all = refl
map_same f g (x ∷ xs) all = rw (all.0, map_same f g xs all.1) refl

no_piece : Piece
no_piece = record { start = 0; width = 0 }

prefix_grown : (runs mr : List Piece) (cells mc : List ℕ) → AllByRecursion (IsPiece cells) runs → (run : ℕ) → run < length runs → prefix_in (cells ++ mc) (slice_get (runs ++ mr) run) ≡ prefix_in cells (slice_get runs run)
prefix_grown runs mr cells mc all run lt =
    let piece = get_or runs run no_piece in
    let there : slice_get runs run ≡ Some piece = slice_get-get_or runs run no_piece lt in
    ap (prefix_in (cells ++ mc)) (get_before runs mr run lt ∙ there)
    ∙ piece_before cells mc piece (each_at (IsPiece cells) runs run no_piece all lt)
    ∙ ap (prefix_in cells) (sym there)

pub stills_grown : (relation : ℕ) (columns : List ℕ) (runs mr : List Piece) (cells mc : List ℕ) (ranges : List Span) → AllByRecursion (IsPiece cells) runs → AllByRecursion (λ (span : Span). span.run < length runs) ranges
    → map (still relation columns (runs ++ mr) (cells ++ mc)) ranges ≡ map (still relation columns runs cells) ranges
stills_grown relation columns runs mr cells mc ranges all there =
    map_same (still relation columns (runs ++ mr) (cells ++ mc)) (still relation columns runs cells) ranges
    (each_weaker (λ (span : Span). span.run < length runs) _ (λ span lt. ap (λ prefix. range_in relation columns prefix span.lo span.hi) (prefix_grown runs mr cells mc all span.run lt)) ranges there)

-- ---- ranges that grow

pub growing_next : (relation : ℕ) (columns : List ℕ) (at : Row) (n : ℕ) (gaps : List Gap) (gap : Gap) → growing relation columns at n (gaps ++ gap ∷ []) ≡ growing relation columns at n gaps ++ range_in relation columns (take (length gaps + n) at) gap.lo gap.hi ∷ []
growing_next relation columns at n [] gap = (let e : n ≡ length {A = Gap} [] + n = omega arith in ap (λ k. range_in relation columns (take k at) gap.lo gap.hi ∷ []) e)
growing_next relation columns at n (g ∷ gs) gap =
    let e : length gs + suc n ≡ length (g ∷ gs) + n = omega arith in
    ap (λ rest. range_in relation columns (take n at) g.lo g.hi ∷ rest) (growing_next relation columns at (suc n) gs gap ∙ ap (λ k. growing relation columns at (suc n) gs ++ range_in relation columns (take k at) gap.lo gap.hi ∷ []) e)

-- cells that come at the end of the prefix are in none of them
pub growing_below : (relation : ℕ) (columns : List ℕ) (at more : Row) (n : ℕ) (gaps : List Gap) → length gaps + n ≤ suc (length at) → growing relation columns (at ++ more) n gaps ≡ growing relation columns at n gaps
growing_below relation columns at more n [] le = refl
growing_below relation columns at more n (g ∷ gs) le =
    ap (λ prefix. range_in relation columns prefix g.lo g.hi ∷ growing relation columns (at ++ more) (suc n) gs) (take-append-le n at more (omega (arith, le)))
    ∙ ap (λ rest. range_in relation columns (take n at) g.lo g.hi ∷ rest) (growing_below relation columns at more (suc n) gs (omega (arith, le)))

-- ---- all ranges of an index

abbrev pub all_of : List KeptGap → ℕ → List ℕ → Row → List Gap → ℕ → ℕ → List KeptGap
all_of kept relation columns at above lo hi = kept ++ (growing relation columns at 0 above ++ range_in relation columns at lo hi ∷ [])

pub or_none : (b : Bool) → (b || false) ≡ b
or_none true = refl
or_none false = refl

pub have_all : (kept : List KeptGap) (n : ℕ) (columns : List ℕ) (at : Row) (above : List Gap) (lo hi relation : ℕ) (row : Row)
    → have (all_of kept n columns at above lo hi) relation row ≡ (have kept relation row || (have (growing n columns at 0 above) relation row || gap_covers (range_in n columns at lo hi) relation row))
have_all kept n columns at above lo hi relation row =
    list_any-append (λ range. gap_covers range relation row) kept (growing n columns at 0 above ++ range_in n columns at lo hi ∷ [])
    ∙ ap (λ b. have kept relation row || b) (list_any-append (λ range. gap_covers range relation row) (growing n columns at 0 above) (range_in n columns at lo hi ∷ [])
    ∙ ap (λ b. have (growing n columns at 0 above) relation row || b) (or_none (gap_covers (range_in n columns at lo hi) relation row)))

pub have_next : (ranges : List KeptGap) (range : KeptGap) (relation : ℕ) (row : Row) → have (ranges ++ range ∷ []) relation row ≡ (have ranges relation row || gap_covers range relation row)
have_next ranges range relation row =
    list_any-append (λ r. gap_covers r relation row) ranges (range ∷ []) ∙ ap (λ b. have ranges relation row || b) (or_none (gap_covers range relation row))

pub same_all : {k1 k2 : List KeptGap} {n1 n2 : ℕ} {c1 c2 : List ℕ} {at1 at2 : Row} {a1 a2 : List Gap} {l1 l2 h1 h2 : ℕ} → k1 ≡ k2 → n1 ≡ n2 → c1 ≡ c2 → at1 ≡ at2 → a1 ≡ a2 → l1 ≡ l2 → h1 ≡ h2 → all_of k1 n1 c1 at1 a1 l1 h1 ≡ all_of k2 n2 c2 at2 a2 l2 h2
same_all k n c at a l h = rw (k, n, c, at, a, l, h) refl

-- none comes
pub none_kept : (old new : List KeptGap) (n : ℕ) (columns : List ℕ) (prefix : Row) (lo hi : ℕ) → new ≡ old → hi ≤ lo → HaveAlso old new (range_in n columns prefix lo hi)
none_kept old new n columns prefix lo hi is empty relation row below =
    ap (λ ranges. have ranges relation row) is ∙ sym (or_none (have old relation row)) ∙ ap (λ b. have old relation row || b) (sym (covers_nothing n columns prefix lo hi empty relation row))

-- ---- what grows

-- the range where the walk stands goes on
pub goes_on : (kept : List KeptGap) (n : ℕ) (columns : List ℕ) (at : Row) (above : List Gap) (lo m hi : ℕ) → lo ≤ m → m ≤ hi → HaveAlso (all_of kept n columns at above lo m) (all_of kept n columns at above lo hi) (range_in n columns at m hi)
goes_on kept n columns at above lo m hi a b relation row below =
    have_all kept n columns at above lo hi relation row
    ∙ by (have kept relation row) (have (growing n columns at 0 above) relation row) _ _ _ (covers_joined n columns at lo m hi a b relation row)
    ∙ ap (λ x. x || gap_covers (range_in n columns at m hi) relation row) (sym (have_all kept n columns at above lo m relation row))
  where
    by : (k g x y z : Bool) → x ≡ (y || z) → (k || (g || x)) ≡ ((k || (g || y)) || z)
    by true g x y z h = refl
    by false true x y z h = refl
    by false false x y z h = h

-- rows that it has already
pub has_them : (kept : List KeptGap) (n : ℕ) (columns : List ℕ) (at : Row) (above : List Gap) (lo hi l h : ℕ) → lo ≤ l → h ≤ hi → HaveAlso (all_of kept n columns at above lo hi) (all_of kept n columns at above lo hi) (range_in n columns at l h)
has_them kept n columns at above lo hi l h a b relation row below =
    have_all kept n columns at above lo hi relation row
    ∙ by (have kept relation row) (have (growing n columns at 0 above) relation row) _ _ (covers_within n columns at lo hi l h a b relation row)
    ∙ ap (λ x. x || gap_covers (range_in n columns at l h) relation row) (sym (have_all kept n columns at above lo hi relation row))
  where
    by : (k g x z : Bool) → (z ≡ true → x ≡ true) → (k || (g || x)) ≡ ((k || (g || x)) || z)
    by true g x z h = refl
    by false true x z h = refl
    by false false true z h = refl
    by false false false true h = h refl
    by false false false false h = refl

-- it is kept, and another begins
pub begins_anew : (kept more : List KeptGap) (n : ℕ) (columns : List ℕ) (at : Row) (above : List Gap) (lo hi l h : ℕ) → HaveAlso kept more (range_in n columns at lo hi) → HaveAlso (all_of kept n columns at above lo hi) (all_of more n columns at above l h) (range_in n columns at l h)
begins_anew kept more n columns at above lo hi l h also relation row below =
    have_all more n columns at above l h relation row
    ∙ ap (λ b. b || (have (growing n columns at 0 above) relation row || gap_covers (range_in n columns at l h) relation row)) (also relation row below)
    ∙ by (have kept relation row) (gap_covers (range_in n columns at lo hi) relation row) (have (growing n columns at 0 above) relation row) (gap_covers (range_in n columns at l h) relation row)
    ∙ ap (λ x. x || gap_covers (range_in n columns at l h) relation row) (sym (have_all kept n columns at above lo hi relation row))
  where
    by : (k c g x : Bool) → ((k || c) || (g || x)) ≡ ((k || (g || c)) || x)
    by true c g x = refl
    by false true true x = refl
    by false true false x = refl
    by false false true x = refl
    by false false false x = refl

-- ---- up and down

have_growing_next : (n : ℕ) (columns : List ℕ) (at : Row) (key : ℕ) (above : List Gap) (gap : Gap) → length above ≡ length at → (relation : ℕ) (row : Row)
    → have (growing n columns (at ++ key ∷ []) 0 (above ++ gap ∷ [])) relation row ≡ (have (growing n columns at 0 above) relation row || gap_covers (range_in n columns at gap.lo gap.hi) relation row)
have_growing_next n columns at key above gap deep relation row =
    ap (λ ranges. have ranges relation row) (growing_next n columns (at ++ key ∷ []) 0 above gap)
    ∙ have_next (growing n columns (at ++ key ∷ []) 0 above) (range_in n columns (take (length above + 0) (at ++ key ∷ [])) gap.lo gap.hi) relation row
    ∙ ap (λ ranges. have ranges relation row || gap_covers (range_in n columns (take (length above + 0) (at ++ key ∷ [])) gap.lo gap.hi) relation row) (growing_below n columns at (key ∷ []) 0 above (omega (arith, deep)))
    ∙ ap (λ prefix. have (growing n columns at 0 above) relation row || gap_covers (range_in n columns prefix gap.lo gap.hi) relation row) (let e : length above + 0 ≡ length at = omega (arith, deep) in ap (λ k. take k (at ++ key ∷ [])) e ∙ first at)
  where
    first : (xs : Row) → take (length xs) (xs ++ key ∷ []) ≡ xs
    first [] = refl
    first (x ∷ xs) = ap (λ ys. x ∷ ys) (first xs)

-- below a key nothing was gone over yet
pub goes_down : (kept : List KeptGap) (n : ℕ) (columns : List ℕ) (at : Row) (key : ℕ) (above : List Gap) (gap : Gap) → length above ≡ length at → HaveSameRows (all_of kept n columns (at ++ key ∷ []) (above ++ gap ∷ []) 0 0) (all_of kept n columns at above gap.lo gap.hi)
goes_down kept n columns at key above gap deep relation row below =
    have_all kept n columns (at ++ key ∷ []) (above ++ gap ∷ []) 0 0 relation row
    ∙ ap (λ b. have kept relation row || (b || gap_covers (range_in n columns (at ++ key ∷ []) 0 0) relation row)) (have_growing_next n columns at key above gap deep relation row)
    ∙ ap (λ b. have kept relation row || ((have (growing n columns at 0 above) relation row || gap_covers (range_in n columns at gap.lo gap.hi) relation row) || b)) (covers_nothing n columns (at ++ key ∷ []) 0 0 (omega arith) relation row)
    ∙ ap (λ b. have kept relation row || b) (or_none (have (growing n columns at 0 above) relation row || gap_covers (range_in n columns at gap.lo gap.hi) relation row))
    ∙ sym (have_all kept n columns at above gap.lo gap.hi relation row)

-- the range below a key is kept
pub goes_up : (kept more : List KeptGap) (n : ℕ) (columns : List ℕ) (at : Row) (key : ℕ) (above : List Gap) (gap : Gap) (lo hi : ℕ) → length above ≡ length at → HaveAlso kept more (range_in n columns (at ++ key ∷ []) lo hi)
    → HaveSameRows (all_of more n columns at above gap.lo gap.hi) (all_of kept n columns (at ++ key ∷ []) (above ++ gap ∷ []) lo hi)
goes_up kept more n columns at key above gap lo hi deep also relation row below =
    have_all more n columns at above gap.lo gap.hi relation row
    ∙ ap (λ b. b || (have (growing n columns at 0 above) relation row || gap_covers (range_in n columns at gap.lo gap.hi) relation row)) (also relation row below)
    ∙ by (have kept relation row) (gap_covers (range_in n columns (at ++ key ∷ []) lo hi) relation row) (have (growing n columns at 0 above) relation row) (gap_covers (range_in n columns at gap.lo gap.hi) relation row)
    ∙ ap (λ b. have kept relation row || (b || gap_covers (range_in n columns (at ++ key ∷ []) lo hi) relation row)) (sym (have_growing_next n columns at key above gap deep relation row))
    ∙ sym (have_all kept n columns (at ++ key ∷ []) (above ++ gap ∷ []) lo hi relation row)
  where
    by : (k c g x : Bool) → ((k || c) || (g || x)) ≡ (k || ((g || x) || c))
    by true c g x = refl
    by false true true x = refl
    by false true false true = refl
    by false true false false = refl
    by false false true x = refl
    by false false false true = refl
    by false false false false = refl

-- a key below which all was gone over goes into the range above, which it adjoins
pub folds_on : (kept : List KeptGap) (n : ℕ) (columns : List ℕ) (at : Row) (key : ℕ) (above : List Gap) (gap : Gap) → length above ≡ length at → gap.lo ≤ gap.hi → gap.hi ≡ key → length at + 1 < length columns
    → HaveSameRows (all_of kept n columns at above gap.lo (key + 1)) (all_of kept n columns (at ++ key ∷ []) (above ++ gap ∷ []) 0 end_key)
folds_on kept n columns at key above gap deep up adjoins long relation row below =
    have_all kept n columns at above gap.lo (key + 1) relation row
    ∙ ap (λ b. have kept relation row || (have (growing n columns at 0 above) relation row || b))
    (covers_joined n columns at gap.lo gap.hi (key + 1) up (omega (arith, adjoins)) relation row
    ∙ ap (λ k. gap_covers (range_in n columns at gap.lo gap.hi) relation row || gap_covers (range_in n columns at k (key + 1)) relation row) adjoins
    ∙ ap (λ b. gap_covers (range_in n columns at gap.lo gap.hi) relation row || b) (sym (covers_whole n columns at key long relation row below)))
    ∙ by (have kept relation row) (have (growing n columns at 0 above) relation row) _ _
    ∙ ap (λ b. have kept relation row || (b || gap_covers (range_in n columns (at ++ key ∷ []) 0 end_key) relation row)) (sym (have_growing_next n columns at key above gap deep relation row))
    ∙ sym (have_all kept n columns (at ++ key ∷ []) (above ++ gap ∷ []) 0 end_key relation row)
  where
    by : (k g x c : Bool) → (k || (g || (x || c))) ≡ (k || ((g || x) || c))
    by true g x c = refl
    by false true x c = refl
    by false false x c = refl

-- the range above is kept, and the key begins another
pub folds_anew : (kept more : List KeptGap) (n : ℕ) (columns : List ℕ) (at : Row) (key : ℕ) (above : List Gap) (gap : Gap) → length above ≡ length at → HaveAlso kept more (range_in n columns at gap.lo gap.hi) → length at + 1 < length columns
    → HaveSameRows (all_of more n columns at above key (key + 1)) (all_of kept n columns (at ++ key ∷ []) (above ++ gap ∷ []) 0 end_key)
folds_anew kept more n columns at key above gap deep also long relation row below =
    have_all more n columns at above key (key + 1) relation row
    ∙ ap (λ b. b || (have (growing n columns at 0 above) relation row || gap_covers (range_in n columns at key (key + 1)) relation row)) (also relation row below)
    ∙ ap (λ b. (have kept relation row || gap_covers (range_in n columns at gap.lo gap.hi) relation row) || (have (growing n columns at 0 above) relation row || b)) (sym (covers_whole n columns at key long relation row below))
    ∙ by (have kept relation row) (gap_covers (range_in n columns at gap.lo gap.hi) relation row) (have (growing n columns at 0 above) relation row) (gap_covers (range_in n columns (at ++ key ∷ []) 0 end_key) relation row)
    ∙ ap (λ b. have kept relation row || (b || gap_covers (range_in n columns (at ++ key ∷ []) 0 end_key) relation row)) (sym (have_growing_next n columns at key above gap deep relation row))
    ∙ sym (have_all kept n columns (at ++ key ∷ []) (above ++ gap ∷ []) 0 end_key relation row)
  where
    by : (k x g c : Bool) → ((k || x) || (g || c)) ≡ (k || ((g || x) || c))
    by true x g c = refl
    by false true true c = refl
    by false true false c = refl
    by false false true c = refl
    by false false false c = refl

-- ---- as they are kept

pub last_prefix : (runs : List Piece) (cells : List ℕ) (i : ℕ) (piece : Piece) → slice_get runs i ≡ Some piece → prefix_in cells (slice_get runs i) ≡ piece_of cells piece
last_prefix runs cells i piece is = ap (prefix_in cells) is

pub pieces_grown : (runs : List Piece) (cells row : List ℕ) → length row ≤ 8 → AllByRecursion (IsPiece cells) runs → AllByRecursion (IsPiece (cells ++ row)) (runs ++ record { start = length cells; width = length row } ∷ [])
pieces_grown runs cells row narrow all = ends runs all
  where
    next : IsPiece (cells ++ row) (record { start = length cells; width = length row })
    next = (let e = length-append cells row in omega arith, narrow)

    ends : (rs : List Piece) → AllByRecursion (IsPiece cells) rs → AllByRecursion (IsPiece (cells ++ row)) (rs ++ record { start = length cells; width = length row } ∷ [])
    ends [] h = (next, tt)
    ends (r ∷ rs) h = (still_piece cells row r h.0, ends rs h.1)

pub spans_still : (runs : List Piece) (piece : Piece) (ranges : List Span) → AllByRecursion (λ (span : Span). span.run < length runs) ranges → AllByRecursion (λ (span : Span). span.run < length (runs ++ piece ∷ [])) ranges
spans_still runs piece ranges all = each_weaker (λ (span : Span). span.run < length runs) _ (λ span lt. longer runs (piece ∷ []) span.run lt) ranges all

pub run_made : (runs : List Piece) (cells row : List ℕ) → prefix_in (cells ++ row) (slice_get (runs ++ record { start = length cells; width = length row } ∷ []) (length runs)) ≡ row
run_made runs cells row = ap (prefix_in (cells ++ row)) (get_next runs (record { start = length cells; width = length row })) ∙ piece_next cells row

pub run_sound : (old new : Spans) (row : Row) → IsSpans old → length row ≤ 8 → GrowAlike old new → new.ranges.items ≡ old.ranges.items → new.cells.items ≡ old.cells.items ++ row
    → new.runs.items ≡ old.runs.items ++ record { start = length old.cells.items; width = length row } ∷ [] → IsSpans new
run_sound old new row sound narrow alike ranges cells runs = record {
  runs = rw (cells, runs) (pieces_grown old.runs.items old.cells.items row narrow sound.runs);
  ranges = rw (ranges, runs) (spans_still old.runs.items (record { start = length old.cells.items; width = length row }) old.ranges.items sound.ranges);
  narrow = rw alike.columns sound.narrow;
  depth = rw (alike.above, alike.at) sound.depth;
  risen = rw alike.above sound.risen;
  here = rw (alike.lo, alike.hi) sound.here;
}

pub pushed_is : (runs new : List Piece) (start width s w : ℕ) → new ≡ runs ++ record { start = start; width = width } ∷ [] → start ≡ s → width ≡ w → new ≡ runs ++ record { start = s; width = w } ∷ []
pushed_is runs new start width s w is a b = is ∙ ap (λ n. runs ++ record { start = n; width = width } ∷ []) a ∙ ap (λ n. runs ++ record { start = s; width = n } ∷ []) b

-- ---- the walk goes back up

pub last_cell : (xs : Row) (n : ℕ) → suc n ≡ length xs → xs ≡ take n xs ++ slice_index xs n ∷ []
last_cell [] n is = absurd (omega (arith, is))
last_cell (x ∷ []) zero is = refl
last_cell (x ∷ y ∷ ys) zero is = absurd (omega (arith, is))
last_cell (x ∷ xs) (suc n) is = ap (λ ys. x ∷ ys) (last_cell xs n (omega (arith, is)))

pub last_gap : (xs : List Gap) (n : ℕ) (gap : Gap) → suc n ≡ length xs → gap ≡ get_or xs n gap → xs ≡ take n xs ++ gap ∷ []
last_gap xs n gap is there = sym (take_whole xs (n + 1) (omega (arith, is))) ∙ take_next xs n gap (omega (arith, is)) there

pub each_take : (P : Gap → Type 0) (n : ℕ) (xs : List Gap) → AllByRecursion P xs → AllByRecursion P (take n xs)
each_take P zero xs all = tt
each_take P (suc n) [] all = tt
each_take P (suc n) (x ∷ xs) all = (all.0, each_take P n xs all.1)

up_by : (kept more : List KeptGap) (n : ℕ) (columns : List ℕ) (at0 : Row) (key : ℕ) (above0 : List Gap) (gap : Gap) (lo hi : ℕ) (at : Row) (above : List Gap) → at ≡ at0 ++ key ∷ [] → above ≡ above0 ++ gap ∷ [] → length above0 ≡ length at0
    → HaveAlso kept more (range_in n columns at lo hi) → HaveSameRows (all_of more n columns at0 above0 gap.lo gap.hi) (all_of kept n columns at above lo hi)
up_by kept more n columns at0 key above0 gap lo hi at above a b deep also =
    rw (a, b) (goes_up kept more n columns at0 key above0 gap lo hi deep (subst (λ prefix. HaveAlso kept more (range_in n columns prefix lo hi)) a also))

above_at : (s : Spans) → IsSpans s → 0 < length s.at → length (take (length s.above.items - 1) s.above.items) ≡ length (take (length s.at - 1) s.at)
above_at s sound below =
    length-take-le (length s.above.items - 1) s.above.items (omega arith) ∙ ap (λ n. n - 1) sound.depth ∙ sym (length-take-le (length s.at - 1) s.at (omega arith))

pub rises : (s : Spans) (more : List KeptGap) (gap : Gap) → IsSpans s → 0 < length s.at → gap ≡ get_or s.above.items (length s.at - 1) gap → HaveAlso (stills s) more (under s s.at s.lo s.hi)
    → HaveSameRows (all_of more s.relation s.columns (take (length s.at - 1) s.at) (take (length s.above.items - 1) s.above.items) gap.lo gap.hi) (ranges_of s)
rises s more gap sound below there also =
    let n : length s.at - 1 ≡ length s.above.items - 1 = ap (λ k. k - 1) (sym sound.depth) in
    up_by (stills s) more s.relation s.columns (take (length s.at - 1) s.at) (slice_index s.at (length s.at - 1)) (take (length s.above.items - 1) s.above.items) gap s.lo s.hi s.at s.above.items
    (last_cell s.at (length s.at - 1) (omega (arith, below)))
    (last_gap s.above.items (length s.above.items - 1) gap (let d = sound.depth in omega (arith, below, d)) (there ∙ ap (λ k. get_or s.above.items k gap) n))
    (above_at s sound below) also

pub rise_sound : (mid new : Spans) → IsSpans mid → 0 < length mid.at → new.runs.items ≡ mid.runs.items → new.cells.items ≡ mid.cells.items → new.ranges.items ≡ mid.ranges.items → new.columns ≡ mid.columns
    → new.at ≡ take (length mid.at - 1) mid.at → new.above.items ≡ take (length mid.above.items - 1) mid.above.items → new.lo ≤ new.hi → IsSpans new
rise_sound mid new sound below runs cells ranges columns at above up = record {
  runs = rw (runs, cells) sound.runs;
  ranges = rw (ranges, runs) sound.ranges;
  narrow = rw columns sound.narrow;
  depth = rw (above, at) (above_at mid sound below);
  risen = rw above (each_take (λ (gap : Gap). gap.lo ≤ gap.hi) (length mid.above.items - 1) mid.above.items sound.risen);
  here = up;
}

pub gap_is : (s : Spans) (gap : Gap) → IsSpans s → 0 < length s.at → gap ≡ get_or s.above.items (length s.at - 1) gap → s.above.items ≡ take (length s.above.items - 1) s.above.items ++ gap ∷ []
gap_is s gap sound below there =
    let n : length s.at - 1 ≡ length s.above.items - 1 = ap (λ k. k - 1) (sym sound.depth) in
    last_gap s.above.items (length s.above.items - 1) gap (let d = sound.depth in omega (arith, below, d)) (there ∙ ap (λ k. get_or s.above.items k gap) n)

pub up_of : (s : Spans) (gap : Gap) → IsSpans s → 0 < length s.at → gap ≡ get_or s.above.items (length s.at - 1) gap → gap.lo ≤ gap.hi
up_of s gap sound below there = subst (λ (g : Gap). g.lo ≤ g.hi) (sym there) (each_at (λ (g : Gap). g.lo ≤ g.hi) s.above.items (length s.at - 1) gap sound.risen (let d = sound.depth in omega (arith, below, d)))

long_at : (s : Spans) → 0 < length s.at → length s.at < length s.columns → length (take (length s.at - 1) s.at) + 1 < length s.columns
long_at s below long = let e = length-take-le (length s.at - 1) s.at (omega arith) in omega (arith, e, below, long)

-- the key goes on with the range above
pub whole_on : (s : Spans) (key : ℕ) (gap : Gap) → IsSpans s → 0 < length s.at → length s.at < length s.columns → (s.lo ≡ 0) × (s.hi ≡ end_key) → gap ≡ get_or s.above.items (length s.at - 1) gap → key ≡ slice_index s.at (length s.at - 1) → gap.hi ≡ key
    → HaveSameRows (all_of (stills s) s.relation s.columns (take (length s.at - 1) s.at) (take (length s.above.items - 1) s.above.items) gap.lo (key + 1)) (ranges_of s)
whole_on s key gap sound below long all there is adjoins = whole_by (stills s) (stills s) s.relation s.columns (take (length s.at - 1) s.at) key (take (length s.above.items - 1) s.above.items) gap s.lo s.hi s.at s.above.items
    (last_cell s.at (length s.at - 1) (omega (arith, below)) ∙ ap (λ k. take (length s.at - 1) s.at ++ k ∷ []) (sym is)) (gap_is s gap sound below there) all
    (folds_on (stills s) s.relation s.columns (take (length s.at - 1) s.at) key (take (length s.above.items - 1) s.above.items) gap (above_at s sound below) (up_of s gap sound below there) adjoins (long_at s below long))
  where
    whole_by : (kept more : List KeptGap) (n : ℕ) (columns : List ℕ) (at0 : Row) (key : ℕ) (above0 : List Gap) (gap : Gap) (lo hi : ℕ) (at : Row) (above : List Gap) → at ≡ at0 ++ key ∷ [] → above ≡ above0 ++ gap ∷ [] → (lo ≡ 0) × (hi ≡ end_key)
        → HaveSameRows (all_of more n columns at0 above0 gap.lo (key + 1)) (all_of kept n columns (at0 ++ key ∷ []) (above0 ++ gap ∷ []) 0 end_key)
        → HaveSameRows (all_of more n columns at0 above0 gap.lo (key + 1)) (all_of kept n columns at above lo hi)
    whole_by kept more n columns at0 key above0 gap lo hi at above a b all same = rw (a, b, all.0, all.1) same

-- the range above was kept, and the key begins another
pub whole_anew : (s : Spans) (more : List KeptGap) (key : ℕ) (gap : Gap) → IsSpans s → 0 < length s.at → length s.at < length s.columns → (s.lo ≡ 0) × (s.hi ≡ end_key) → gap ≡ get_or s.above.items (length s.at - 1) gap → key ≡ slice_index s.at (length s.at - 1)
    → HaveAlso (stills s) more (under s (take (length s.at - 1) s.at) gap.lo gap.hi)
    → HaveSameRows (all_of more s.relation s.columns (take (length s.at - 1) s.at) (take (length s.above.items - 1) s.above.items) key (key + 1)) (ranges_of s)
whole_anew s more key gap sound below long all there is also = whole_by (stills s) more s.relation s.columns (take (length s.at - 1) s.at) key (take (length s.above.items - 1) s.above.items) gap s.lo s.hi s.at s.above.items
    (last_cell s.at (length s.at - 1) (omega (arith, below)) ∙ ap (λ k. take (length s.at - 1) s.at ++ k ∷ []) (sym is)) (gap_is s gap sound below there) all
    (folds_anew (stills s) more s.relation s.columns (take (length s.at - 1) s.at) key (take (length s.above.items - 1) s.above.items) gap (above_at s sound below) also (long_at s below long))
  where
    whole_by : (kept more : List KeptGap) (n : ℕ) (columns : List ℕ) (at0 : Row) (key : ℕ) (above0 : List Gap) (gap : Gap) (lo hi : ℕ) (at : Row) (above : List Gap) → at ≡ at0 ++ key ∷ [] → above ≡ above0 ++ gap ∷ [] → (lo ≡ 0) × (hi ≡ end_key)
        → HaveSameRows (all_of more n columns at0 above0 key (key + 1)) (all_of kept n columns (at0 ++ key ∷ []) (above0 ++ gap ∷ []) 0 end_key)
        → HaveSameRows (all_of more n columns at0 above0 key (key + 1)) (all_of kept n columns at above lo hi)
    whole_by kept more n columns at0 key above0 gap lo hi at above a b all same = rw (a, b, all.0, all.1) same
