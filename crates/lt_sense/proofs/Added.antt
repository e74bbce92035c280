-- Ranges that are added one after another, and what is said then.
use Rattle.std.proofs.Common.{◌≡◌, ℕ, zero, suc, ◌+◌, ◌<◌, ◌≤◌, Bool, true, false, ◌||◌, List, [], ◌∷◌, ◌++◌, map, length, take, get_or, slice_get, slice_set, Some, refl, sym, ap, ◌∙◌, subst, arith}
use Rattle.std.specs.List.{list_any, AllByRecursion}
use Rattle.std.proofs.lemmas.List.Folds.{list_any-append}
use Rattle.lt_face.specs.State.{Row}
use Rattle.lt_face.specs.declared.key.Gap.{Gap}
use Rattle.lt_sense.specs.declared.covering.KeptGap.{KeptGap}
use Rattle.lt_sense.specs.declared.covering.Hit.{Hit}
use Rattle.lt_sense.specs.declared.spans.Span.{Span}
use Rattle.lt_sense.specs.declared.spans.Spans.{Spans}
use Rattle.lt_sense.specs.declared.pieces.Piece.{Piece}
use Rattle.lt_sense.specs.Kept.{Sense}
use Rattle.lt_sense.specs.Sense.{gap_covers, hit_covers}
use Rattle.lt_sense.specs.Pieces.{piece_of}
use Rattle.lt_sense.specs.Spans.{have, HaveSameRows, HaveAlso, still, growing, under, stills, ranges_of}
use Rattle.lt_sense.specs.Gathered.{ranges_in, IsSaid, HaveRow, HaveAll}
use Rattle.lt_sense.proofs.Lies.{take_next, take_whole, length_map, get_there}
use Rattle.lt_sense.proofs.Said.{said_hit, have_first}
use Rattle.lt_sense.proofs.Sorted.{all_init}
use Rattle.lt_sense.proofs.Spanned.{range_in, or_none, have_all, have_next, last_prefix}

-- ---- one more

pub all_none : (ranges : List KeptGap) → HaveAll ranges ranges []
all_none ranges relation row below = sym (or_none (have ranges relation row))

or_right_of : (a b c : Bool) → ((a || b) || c) ≡ (a || (b || c))
or_right_of true b c = refl
or_right_of false b c = refl

pub all_also : (old mid new ranges : List KeptGap) (range : KeptGap) → HaveAll old mid ranges → HaveAlso mid new range → HaveAll old new (ranges ++ range ∷ [])
all_also old mid new ranges range all also relation row below =
    also relation row below
    ∙ ap (λ b. b || gap_covers range relation row) (all relation row below)
    ∙ or_right_of (have old relation row) (have ranges relation row) (gap_covers range relation row)
    ∙ ap (λ b. have old relation row || b) (sym (have_next ranges range relation row))

pub all_whole : (old new ranges : List KeptGap) (i : ℕ) → length ranges ≤ i → HaveAll old new (take i ranges) → HaveAll old new ranges
all_whole old new ranges i le all = subst (HaveAll old new) (take_whole ranges i le) all

-- ---- those that don't grow

take_image : {X Y : Type 0} (f : X → Y) (xs : List X) (i : ℕ) (x : X) → i < length xs → x ≡ get_or xs i x → take (i + 1) (map f xs) ≡ take i (map f xs) ++ f x ∷ []
take_image f [] i x lt there = absurd (omega (arith, lt))
take_image f (y ∷ ys) zero x lt there = ap (λ z. f z ∷ []) (sym there)
take_image f (y ∷ ys) (suc i) x lt there = (let e : suc i + 1 ≡ suc (i + 1) = omega arith in ap (λ n. take n (f y ∷ map f ys)) e) ∙ ap (λ zs. f y ∷ zs) (take_image f ys i x (omega (arith, lt)) there)

pub still_added : (s : Spans) (i : ℕ) (span : Span) (piece : Piece) (prefix : Row) (old mid new : List KeptGap) → i < length s.ranges.items → span ≡ get_or s.ranges.items i span → span.run < length s.runs.items → piece ≡ get_or s.runs.items span.run piece → prefix ≡ piece_of s.cells.items piece
    → HaveAll old mid (take i (stills s)) → HaveAlso mid new (under s prefix span.lo span.hi) → HaveAll old new (take (i + 1) (stills s))
still_added s i span piece prefix old mid new lt there within run is all also =
    subst (HaveAll old new) (sym (take_image (still s.relation s.columns s.runs.items s.cells.items) s.ranges.items i span lt there))
    (all_also old mid new (take i (stills s)) (still s.relation s.columns s.runs.items s.cells.items span) all
    (subst (λ p. HaveAlso mid new (range_in s.relation s.columns p span.lo span.hi)) (is ∙ sym (last_prefix s.runs.items s.cells.items span.run piece (get_there s.runs.items span.run piece within run))) also))

pub still_whole : (s : Spans) (i : ℕ) (old new : List KeptGap) → length s.ranges.items ≤ i → HaveAll old new (take i (stills s)) → HaveAll old new (stills s)
still_whole s i old new le all = all_whole old new (stills s) i (let e = length_map (still s.relation s.columns s.runs.items s.cells.items) s.ranges.items in omega (arith, e, le)) all

-- ---- those that grow above the last one

take_growing : (n : ℕ) (columns : List ℕ) (at : Row) (k : ℕ) (gaps : List Gap) (i : ℕ) (gap : Gap) → i < length gaps → gap ≡ get_or gaps i gap → take (i + 1) (growing n columns at k gaps) ≡ take i (growing n columns at k gaps) ++ range_in n columns (take (i + k) at) gap.lo gap.hi ∷ []
take_growing n columns at k [] i gap lt there = absurd (omega (arith, lt))
take_growing n columns at k (g ∷ gs) zero gap lt there =
    ap (λ (x : Gap). range_in n columns (take k at) x.lo x.hi ∷ []) (sym there) ∙ (let e : k ≡ zero + k = omega arith in ap (λ m. range_in n columns (take m at) gap.lo gap.hi ∷ []) e)
take_growing n columns at k (g ∷ gs) (suc i) gap lt there =
    (let e : suc i + 1 ≡ suc (i + 1) = omega arith in ap (λ m. take m (growing n columns at k (g ∷ gs))) e)
    ∙ ap (λ zs. range_in n columns (take k at) g.lo g.hi ∷ zs)
    (take_growing n columns at (suc k) gs i gap (omega (arith, lt)) there
    ∙ (let e : i + suc k ≡ suc i + k = omega arith in ap (λ m. take i (growing n columns at (suc k) gs) ++ range_in n columns (take m at) gap.lo gap.hi ∷ []) e))

length_growing : (n : ℕ) (columns : List ℕ) (at : Row) (k : ℕ) (gaps : List Gap) → length (growing n columns at k gaps) ≡ length gaps
length_growing n columns at k [] = refl
length_growing n columns at k (g ∷ gs) = ap suc (length_growing n columns at (suc k) gs)

pub above_added : (s : Spans) (i : ℕ) (gap : Gap) (prefix : Row) (old mid new : List KeptGap) → i < length s.above.items → gap ≡ get_or s.above.items i gap → prefix ≡ take i s.at
    → HaveAll old mid (take i (growing s.relation s.columns s.at 0 s.above.items)) → HaveAlso mid new (under s prefix gap.lo gap.hi) → HaveAll old new (take (i + 1) (growing s.relation s.columns s.at 0 s.above.items))
above_added s i gap prefix old mid new lt there is all also =
    subst (HaveAll old new) (sym (take_growing s.relation s.columns s.at 0 s.above.items i gap lt there))
    (all_also old mid new (take i (growing s.relation s.columns s.at 0 s.above.items)) (range_in s.relation s.columns (take (i + 0) s.at) gap.lo gap.hi) all
    (subst (λ p. HaveAlso mid new (range_in s.relation s.columns p gap.lo gap.hi)) (is ∙ (let e : i ≡ i + 0 = omega arith in ap (λ m. take m s.at) e)) also))

pub above_whole : (s : Spans) (i : ℕ) (old new : List KeptGap) → length s.above.items ≤ i → HaveAll old new (take i (growing s.relation s.columns s.at 0 s.above.items)) → HaveAll old new (growing s.relation s.columns s.at 0 s.above.items)
above_whole s i old new le all = all_whole old new (growing s.relation s.columns s.at 0 s.above.items) i (let e = length_growing s.relation s.columns s.at 0 s.above.items in omega (arith, e, le)) all

-- ---- all of a list

pub list_added : (s : Spans) (prefix : Row) (a b c d e : List KeptGap) → HaveSameRows b a → HaveAll b c (stills s) → HaveAll c d (growing s.relation s.columns s.at 0 s.above.items) → prefix ≡ s.at → HaveAlso d e (under s prefix s.lo s.hi) → HaveAll a e (ranges_of s)
list_added s prefix a b c d e same kept above is also relation row below =
    also relation row below
    ∙ ap (λ p. have d relation row || gap_covers (under s p s.lo s.hi) relation row) is
    ∙ ap (λ x. x || here) (above relation row below ∙ ap (λ x. x || have grown relation row) (kept relation row below ∙ ap (λ x. x || have (stills s) relation row) (same relation row below)))
    ∙ by (have a relation row) (have (stills s) relation row) (have grown relation row) here
    ∙ ap (λ x. have a relation row || x) (sym (have_all (stills s) s.relation s.columns s.at s.above.items s.lo s.hi relation row))
  where
    grown : List KeptGap
    grown = growing s.relation s.columns s.at 0 s.above.items

    here : Bool
    here = gap_covers (under s s.at s.lo s.hi) relation row

    by : (x y z w : Bool) → (((x || y) || z) || w) ≡ (x || (y || (z || w)))
    by true y z w = refl
    by false true z w = refl
    by false false true w = refl
    by false false false w = refl

pub have_last : (lists : List Spans) (s : Spans) (relation : ℕ) (row : Row) → have (ranges_in (lists ++ s ∷ [])) relation row ≡ (have (ranges_in lists) relation row || have (ranges_of s) relation row)
have_last [] s relation row = have_first s [] relation row ∙ or_none (have (ranges_of s) relation row)
have_last (x ∷ xs) s relation row =
    have_first x (xs ++ s ∷ []) relation row
    ∙ ap (λ b. have (ranges_of x) relation row || b) (have_last xs s relation row)
    ∙ sym (or_right_of (have (ranges_of x) relation row) (have (ranges_in xs) relation row) (have (ranges_of s) relation row))
    ∙ ap (λ b. b || have (ranges_of s) relation row) (sym (have_first x xs relation row))

pub lists_added : (others : List Spans) (i : ℕ) (s : Spans) (old mid new : List KeptGap) → i < length others → s ≡ get_or others i s → HaveAll old mid (ranges_in (take i others)) → HaveAll mid new (ranges_of s) → HaveAll old new (ranges_in (take (i + 1) others))
lists_added others i s old mid new lt there all more relation row below =
    more relation row below
    ∙ ap (λ b. b || have (ranges_of s) relation row) (all relation row below)
    ∙ or_right_of (have old relation row) (have (ranges_in (take i others)) relation row) (have (ranges_of s) relation row)
    ∙ ap (λ b. have old relation row || b) (sym (have_last (take i others) s relation row))
    ∙ ap (λ xs. have old relation row || have (ranges_in xs) relation row) (sym (take_next others i s lt there))

-- ---- a list put in its place

pub set_there : (lists : List Spans) (at : ℕ) (s : Spans) → at < length lists → slice_get (slice_set lists at s) at ≡ Some s
set_there [] at s lt = absurd (omega (arith, lt))
set_there (x ∷ xs) zero s lt = refl
set_there (x ∷ xs) (suc i) s lt = set_there xs i s (omega (arith, lt))

-- ---- what is said

pub said_row : (seen : Sense) (old new : List KeptGap) (hit : Hit) → IsSaid seen old → HaveRow old new hit → IsSaid (record { gaps = seen.gaps; hits = seen.hits ++ hit ∷ [] }) new
said_row seen old new hit said more = said_hit seen old new hit said (λ relation row ask.
    more relation row ask.below ask.some (all_init (λ (h : Hit). h.relation ≡ relation → length h.row ≡ length row) seen.hits hit ask.hits).1)

all_parts : {X : Type 0} (P : X → Type 0) (xs ys : List X) → AllByRecursion P (xs ++ ys) → AllByRecursion P xs × AllByRecursion P ys
all_parts P [] ys all = (tt, all)
all_parts P (x ∷ xs) ys all = let e = all_parts P xs ys all.1 in ((all.0, e.0), e.1)

pub said_both : (one other : Sense) (old more new : List KeptGap) → IsSaid one old → IsSaid other more → HaveAll old new more → IsSaid (record { gaps = one.gaps ++ other.gaps; hits = one.hits ++ other.hits }) new
said_both one other old more new first second all relation row ask =
    ap (λ b. b || list_any (λ hit. hit_covers hit relation row) (one.hits ++ other.hits)) (list_any-append (λ gap. gap_covers gap relation row) one.gaps other.gaps)
    ∙ ap (λ b. (have one.gaps relation row || have other.gaps relation row) || b) (list_any-append (λ hit. hit_covers hit relation row) one.hits other.hits)
    ∙ by (have one.gaps relation row) (have other.gaps relation row) (hits one) (hits other)
    ∙ ap (λ b. b || (have other.gaps relation row || hits other)) (first relation row (record { some = ask.some; below = ask.below; hits = parts.0 }))
    ∙ ap (λ b. have old relation row || b) (second relation row (record { some = ask.some; below = ask.below; hits = parts.1 }))
    ∙ sym (all relation row ask.below)
  where
    parts : AllByRecursion (λ (h : Hit). h.relation ≡ relation → length h.row ≡ length row) one.hits × AllByRecursion (λ (h : Hit). h.relation ≡ relation → length h.row ≡ length row) other.hits
    parts = all_parts (λ (h : Hit). h.relation ≡ relation → length h.row ≡ length row) one.hits other.hits ask.hits

    hits : Sense → Bool
    hits sense = list_any (λ hit. hit_covers hit relation row) sense.hits

    by : (a b h k : Bool) → ((a || b) || (h || k)) ≡ ((a || h) || (b || k))
    by true b h k = refl
    by false true true k = refl
    by false true false k = refl
    by false false h k = refl
