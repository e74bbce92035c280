-- The ranges of a key's part, each list where it belongs.
use Rattle.std.proofs.Common.{◌≡◌, ℕ, zero, suc, ◌+◌, ◌<◌, ◌≤◌, Bool, true, false, ◌&&◌, ◌||◌, List, [], ◌∷◌, ◌++◌, map, length, take, get_or, refl, sym, ap, ◌∙◌, subst, arith}
use Rattle.std.specs.Prelude.{◌==◌}
use Rattle.std.specs.List.{AllByRecursion}
use mathlib.Core.Bool.{true≢false}
use Rattle.std.proofs.lemmas.Bool.{and_parts, and_from, eqb-true, eq-eqb}
use Rattle.lt_face.specs.State.{Row, permuted}
use Rattle.lt_sense.specs.ByKeyRest.{KeyLists}
use Rattle.lt_sense.specs.declared.covering.KeptGap.{KeptGap}
use Rattle.lt_face.specs.declared.key.Gap.{Gap}
use Rattle.lt_sense.specs.declared.pieces.Piece.{Piece}
use Rattle.lt_sense.specs.declared.spans.Span.{Span}
use Rattle.lt_sense.specs.declared.spans.Spans.{Spans}
use Rattle.lt_sense.specs.Pieces.{piece_of}
use Rattle.lt_sense.specs.ByKey.{have_at}
use Rattle.lt_sense.specs.ByKeyTold.{rests_at, AllBegin, AreUnder, DivideIn, RestAll, TakeIn, TellAll, TellBoth}
use Rattle.lt_sense.specs.Clipped.{begins}
use Rattle.lt_sense.specs.Gathered.{ranges_in}
use Rattle.lt_sense.specs.Sense.{gap_covers, lies_in}
use Rattle.lt_sense.specs.Spans.{have, growing, still, stills, under, ranges_of, AreBelowEnd, HaveSameRows}
use Rattle.lt_sense.proofs.ByKeyAdded.{list_at, any_last, of_columns}
use Rattle.lt_sense.proofs.ByKeyRest.{rest_last}
use Rattle.lt_sense.proofs.Lies.{get_there, length_map, take_whole}
use Rattle.lt_sense.proofs.Sorted.{all_push}
use Rattle.lt_sense.proofs.Spanned.{between_is, last_prefix, lies_nowhere, range_in, same_test}

-- ---- rows that begin with the key

pub begin_nothing : (key : ℕ) (prefix : Row) (lo hi : ℕ) → hi ≤ lo → AllBegin key prefix lo hi
begin_nothing key prefix lo hi le cells is = absurd (true≢false (sym is ∙ lies_nowhere prefix lo hi le cells))

pub begin_one : (key : ℕ) (prefix : Row) (lo hi : ℕ) → prefix ≡ [] → lo ≡ key → hi ≤ lo + 1 → AllBegin key prefix lo hi
begin_one key prefix lo hi none low one = subst (λ p. AllBegin key p lo hi) (sym none) by
  where
    by : AllBegin key [] lo hi
    by [] is = absurd (true≢false (sym is))
    by (x ∷ xs) is = (let q = between_is lo hi x is in eq-eqb key x (omega (arith, q.0, q.1, low, one)))

pub begin_first : (key p : ℕ) (ps : Row) (lo hi : ℕ) → p ≡ key → AllBegin key (p ∷ ps) lo hi
begin_first key p ps lo hi first [] is = absurd (true≢false (sym is))
begin_first key p ps lo hi first (x ∷ xs) is = (let e : p ≡ x = eqb-true p x (and_parts (p == x) (lies_in ps lo hi xs) is).0 in eq-eqb key x (sym first ∙ e))

any_begins : (key : ℕ) (columns : List ℕ) (ranges : List KeptGap) → AllByRecursion (λ (range : KeptGap). range.columns ≡ columns) ranges → AllByRecursion (λ (range : KeptGap). AllBegin key range.prefix range.lo range.hi) ranges
    → (relation : ℕ) (row : Row) → have ranges relation row ≡ true → begins key (permuted columns row) ≡ true
any_begins key columns [] same all relation row is = absurd (true≢false (sym is))
any_begins key columns (x ∷ xs) same all relation row is = by (gap_covers x relation row) refl is (any_begins key columns xs same.1 all.1 relation row)
  where
    by : (b : Bool) → b ≡ gap_covers x relation row → (b || have xs relation row) ≡ true → (have xs relation row ≡ true → begins key (permuted columns row) ≡ true) → begins key (permuted columns row) ≡ true
    by true e is later = subst (λ cs. begins key (permuted cs row) ≡ true) same.0 (all.0 (permuted x.columns row) (and_parts (x.relation == relation) (lies_in x.prefix x.lo x.hi (permuted x.columns row)) (sym e)).1)
    by false e is later = later is

all_both : {X : Type 0} (P : X → Type 0) (xs ys : List X) → AllByRecursion P xs → AllByRecursion P ys → AllByRecursion P (xs ++ ys)
all_both P [] ys h k = k
all_both P (x ∷ xs) ys h k = (h.0, all_both P xs ys h.1 k)

pub list_begins : (key : ℕ) (s : Spans) (at : Row) → at ≡ s.at → AllByRecursion (λ (range : KeptGap). AllBegin key range.prefix range.lo range.hi) (stills s)
    → AllByRecursion (λ (range : KeptGap). AllBegin key range.prefix range.lo range.hi) (growing s.relation s.columns s.at 0 s.above.items) → AllBegin key at s.lo s.hi → AreUnder key s
list_begins key s at is kept above here relation row has =
    any_begins key s.columns (ranges_of s) (of_columns s)
    (all_both (λ (range : KeptGap). AllBegin key range.prefix range.lo range.hi) (stills s) (growing s.relation s.columns s.at 0 s.above.items ++ under s s.at s.lo s.hi ∷ []) kept
    (all_both (λ (range : KeptGap). AllBegin key range.prefix range.lo range.hi) (growing s.relation s.columns s.at 0 s.above.items) (under s s.at s.lo s.hi ∷ []) above (subst (λ p. AllBegin key p s.lo s.hi) is here, tt)))
    relation row has

-- ---- one range more

pub take_image : {X Y : Type 0} (f : X → Y) (xs : List X) (i : ℕ) (x : X) → i < length xs → x ≡ get_or xs i x → take (i + 1) (map f xs) ≡ take i (map f xs) ++ f x ∷ []
take_image f [] i x lt there = absurd (omega (arith, lt))
take_image f (y ∷ ys) zero x lt there = ap (λ z. f z ∷ []) (sym there)
take_image f (y ∷ ys) (suc i) x lt there = (let e : suc i + 1 ≡ suc (i + 1) = omega arith in ap (λ n. take n (f y ∷ map f ys)) e) ∙ ap (λ zs. f y ∷ zs) (take_image f ys i x (omega (arith, lt)) there)

pub stills_next : (P : KeptGap → Type 0) (s : Spans) (i : ℕ) (span : Span) (piece : Piece) (prefix : Row) → i < length s.ranges.items → span ≡ get_or s.ranges.items i span → span.run < length s.runs.items → piece ≡ get_or s.runs.items span.run piece → prefix ≡ piece_of s.cells.items piece
    → AllByRecursion P (take i (stills s)) → P (under s prefix span.lo span.hi) → AllByRecursion P (take (i + 1) (stills s))
stills_next P s i span piece prefix lt there within run is all here =
    subst (AllByRecursion P) (sym (take_image (still s.relation s.columns s.runs.items s.cells.items) s.ranges.items i span lt there))
    (all_push P (take i (stills s)) (still s.relation s.columns s.runs.items s.cells.items span) all
    (subst (λ p. P (under s p span.lo span.hi)) (is ∙ sym (last_prefix s.runs.items s.cells.items span.run piece (get_there s.runs.items span.run piece within run))) here))

pub stills_whole : (P : KeptGap → Type 0) (s : Spans) (i : ℕ) → length s.ranges.items ≤ i → AllByRecursion P (take i (stills s)) → AllByRecursion P (stills s)
stills_whole P s i le all = subst (AllByRecursion P) (take_whole (stills s) i (let e = length_map (still s.relation s.columns s.runs.items s.cells.items) s.ranges.items in omega (arith, e, le))) all

take_growing : (n : ℕ) (columns : List ℕ) (at : Row) (k : ℕ) (gaps : List Gap) (i : ℕ) (gap : Gap) → i < length gaps → gap ≡ get_or gaps i gap → take (i + 1) (growing n columns at k gaps) ≡ take i (growing n columns at k gaps) ++ range_in n columns (take (i + k) at) gap.lo gap.hi ∷ []
take_growing n columns at k [] i gap lt there = absurd (omega (arith, lt))
take_growing n columns at k (g ∷ gs) zero gap lt there =
    ap (λ (x : Gap). range_in n columns (take k at) x.lo x.hi ∷ []) (sym there) ∙ (let e : k ≡ zero + k = omega arith in ap (λ m. range_in n columns (take m at) gap.lo gap.hi ∷ []) e)
take_growing n columns at k (g ∷ gs) (suc i) gap lt there =
    (let e : suc i + 1 ≡ suc (i + 1) = omega arith in ap (λ m. take m (growing n columns at k (g ∷ gs))) e)
    ∙ ap (λ zs. range_in n columns (take k at) g.lo g.hi ∷ zs)
    (take_growing n columns at (suc k) gs i gap (omega (arith, lt)) there
    ∙ (let e : i + suc k ≡ suc i + k = omega arith in ap (λ m. take i (growing n columns at (suc k) gs) ++ range_in n columns (take m at) gap.lo gap.hi ∷ []) e))

length_growing : (n : ℕ) (columns : List ℕ) (at : Row) (k : ℕ) (gaps : List Gap) → length (growing n columns at k gaps) ≡ length gaps
length_growing n columns at k [] = refl
length_growing n columns at k (g ∷ gs) = ap suc (length_growing n columns at (suc k) gs)

pub above_next : (P : KeptGap → Type 0) (s : Spans) (i : ℕ) (gap : Gap) (prefix : Row) → i < length s.above.items → gap ≡ get_or s.above.items i gap → prefix ≡ take i s.at
    → AllByRecursion P (take i (growing s.relation s.columns s.at 0 s.above.items)) → P (under s prefix gap.lo gap.hi) → AllByRecursion P (take (i + 1) (growing s.relation s.columns s.at 0 s.above.items))
above_next P s i gap prefix lt there is all here =
    subst (AllByRecursion P) (sym (take_growing s.relation s.columns s.at 0 s.above.items i gap lt there))
    (all_push P (take i (growing s.relation s.columns s.at 0 s.above.items)) (range_in s.relation s.columns (take (i + 0) s.at) gap.lo gap.hi) all
    (subst (λ p. P (range_in s.relation s.columns p gap.lo gap.hi)) (is ∙ (let e : i ≡ i + 0 = omega arith in ap (λ m. take m s.at) e)) here))

pub above_all : (P : KeptGap → Type 0) (s : Spans) (i : ℕ) → length s.above.items ≤ i → AllByRecursion P (take i (growing s.relation s.columns s.at 0 s.above.items)) → AllByRecursion P (growing s.relation s.columns s.at 0 s.above.items)
above_all P s i le all = subst (AllByRecursion P) (take_whole (growing s.relation s.columns s.at 0 s.above.items) i (let e = length_growing s.relation s.columns s.at 0 s.above.items in omega (arith, e, le))) all

-- a list under the key tells just the key
under_at : (key : ℕ) (s : Spans) → AreUnder key s → (k relation : ℕ) (row : Row) → have_at k (ranges_of s) relation row ≡ (key == k && have (ranges_of s) relation row)
under_at key s all k relation row = list_at k s relation row ∙ same_test (have (ranges_of s) relation row && begins k cells) (key == k && have (ranges_of s) relation row) there back
  where
    cells : Row
    cells = permuted s.columns row

    one_of : (xs : Row) (a b : ℕ) → begins a xs ≡ true → begins b xs ≡ true → a ≡ b
    one_of [] a b h j = absurd (true≢false (sym h))
    one_of (x ∷ xs) a b h j = eqb-true a x h ∙ sym (eqb-true b x j)

    there : (have (ranges_of s) relation row && begins k cells) ≡ true → (key == k && have (ranges_of s) relation row) ≡ true
    there h = (let q = and_parts (have (ranges_of s) relation row) (begins k cells) h in and_from (key == k) (have (ranges_of s) relation row) (eq-eqb key k (one_of cells key k (all relation row q.0) q.1)) q.0)

    back : (key == k && have (ranges_of s) relation row) ≡ true → (have (ranges_of s) relation row && begins k cells) ≡ true
    back h = (let q = and_parts (key == k) (have (ranges_of s) relation row) h in and_from (have (ranges_of s) relation row) (begins k cells) q.1 (subst (λ n. begins n cells ≡ true) (eqb-true key k q.0) (all relation row q.1)))

-- ---- one list

pub divide_under : (old new others : List KeptGap) (key : ℕ) (s : Spans) → AreUnder key s → TellAll old new (ranges_of s) → DivideIn old others new others key (ranges_of s)
divide_under old new others key s all added k relation row below =
    ap (λ b. b || (key == k && have others relation row)) (added k relation row below ∙ ap (λ b. have_at k old relation row || b) (under_at key s all k relation row))
    ∙ by (have_at k old relation row) (key == k && have (ranges_of s) relation row) (key == k && have others relation row)
  where
    by : (a c r : Bool) → ((a || c) || r) ≡ ((a || r) || c)
    by true c r = refl
    by false true true = refl
    by false true false = refl
    by false false true = refl
    by false false false = refl

pub divide_other : (lists others new : List Spans) (key : ℕ) (s : Spans) → new ≡ others ++ s ∷ [] → DivideIn (ranges_in lists) (ranges_in others) (ranges_in lists) (ranges_in new) key (ranges_of s)
divide_other lists others new key s is k relation row below =
    ap (λ xs. have_at k (ranges_in lists) relation row || (key == k && have (ranges_in xs) relation row)) is
    ∙ ap (λ b. have_at k (ranges_in lists) relation row || (key == k && b)) (any_last (λ (gap : KeptGap). gap_covers gap relation row) others s)
    ∙ by (have_at k (ranges_in lists) relation row) (key == k) (have (ranges_in others) relation row) (have (ranges_of s) relation row)
  where
    by : (a e o s : Bool) → (a || (e && (o || s))) ≡ ((a || (e && o)) || (e && s))
    by true e o s = refl
    by false true o s = refl
    by false false o s = refl

-- ---- all lists

pub divide_none : (lists others : List KeptGap) (key : ℕ) (k relation : ℕ) (row : Row)
    → (have_at k lists relation row || (key == k && have others relation row)) ≡ ((have_at k lists relation row || (key == k && have others relation row)) || (key == k && have [] relation row))
divide_none lists others key k relation row = by (have_at k lists relation row || (key == k && have others relation row)) (key == k)
  where
    by : (a e : Bool) → a ≡ (a || (e && false))
    by true e = refl
    by false true = refl
    by false false = refl

-- The lists that are left are the first ones; what was taken and these are all.
pub record AreDivided (old others new more : List KeptGap) (key : ℕ) (left parts : List KeptGap) : Type 0 where
  pub all : (k relation : ℕ) (row : Row) → AreBelowEnd row
      → ((have_at k new relation row || (key == k && have more relation row)) || (key == k && have left relation row)) ≡ ((have_at k old relation row || (key == k && have others relation row)) || (key == k && have parts relation row))

pub divided_begun : (old others : List KeptGap) (key : ℕ) (parts : List KeptGap) → AreDivided old others old others key parts parts
divided_begun old others key parts = record { all = λ k relation row below. refl }

pub divided_next : (old others mid more new most : List KeptGap) (key : ℕ) (before left : List Spans) (s : Spans) (parts : List KeptGap) → before ≡ left ++ s ∷ []
    → AreDivided old others mid more key (ranges_in before) parts → DivideIn mid more new most key (ranges_of s) → AreDivided old others new most key (ranges_in left) parts
divided_next old others mid more new most key before left s parts is so taken = record {
  all = λ k relation row below.
      ap (λ b. b || (key == k && have (ranges_in left) relation row)) (taken k relation row below)
      ∙ by (have_at k mid relation row || (key == k && have more relation row)) (key == k) (have (ranges_in left) relation row) (have (ranges_of s) relation row)
      ∙ ap (λ b. (have_at k mid relation row || (key == k && have more relation row)) || (key == k && b)) (sym (any_last (λ (gap : KeptGap). gap_covers gap relation row) left s))
      ∙ ap (λ xs. (have_at k mid relation row || (key == k && have more relation row)) || (key == k && have (ranges_in xs) relation row)) (sym is)
      ∙ so.all k relation row below;
}
  where
    by : (a e l s : Bool) → ((a || (e && s)) || (e && l)) ≡ (a || (e && (l || s)))
    by true e l s = refl
    by false true true true = refl
    by false true true false = refl
    by false true false true = refl
    by false true false false = refl
    by false false l s = refl

pub divided_ended : (old others new more : List KeptGap) (key : ℕ) (left : List Spans) (parts : List KeptGap) → left ≡ [] → AreDivided old others new more key (ranges_in left) parts → DivideIn old others new more key parts
divided_ended old others new more key left parts none so k relation row below =
    divide_none new more key k relation row
    ∙ ap (λ xs. (have_at k new relation row || (key == k && have more relation row)) || (key == k && have (ranges_in xs) relation row)) (sym none)
    ∙ so.all k relation row below

-- ---- what stands by the key then

pub take_none : (old new : List Spans) (rest : List KeyLists) (key : ℕ) (others : List Spans) (parts : List KeptGap) → others ≡ [] → DivideIn (ranges_in old) [] (ranges_in new) (ranges_in others) key parts → TakeIn old rest new rest key parts
take_none old new rest key others parts none taken k relation row below =
    ap (λ b. b || rests_at k rest relation row) (sym (left_none (have_at k (ranges_in new) relation row) (key == k)) ∙ ap (λ xs. have_at k (ranges_in new) relation row || (key == k && have (ranges_in xs) relation row)) (sym none) ∙ taken k relation row below)
    ∙ by (have_at k (ranges_in old) relation row) (key == k) (have parts relation row) (rests_at k rest relation row)
  where
    left_none : (a e : Bool) → (a || (e && false)) ≡ a
    left_none true e = refl
    left_none false true = refl
    left_none false false = refl

    by : (a e p r : Bool) → (((a || (e && false)) || (e && p)) || r) ≡ ((a || r) || (e && p))
    by true e p r = refl
    by false true true true = refl
    by false true true false = refl
    by false true false true = refl
    by false true false false = refl
    by false false p true = refl
    by false false p false = refl

pub take_more : (old new : List Spans) (rest more : List KeyLists) (key : ℕ) (others : List Spans) (part : KeyLists) (parts : List KeptGap) → part.key ≡ key → HaveSameRows (ranges_in part.lists) (ranges_in others) → more ≡ rest ++ part ∷ []
    → DivideIn (ranges_in old) [] (ranges_in new) (ranges_in others) key parts → TakeIn old rest new more key parts
take_more old new rest more key others part parts keys same is taken k relation row below =
    ap (λ xs. have_at k (ranges_in new) relation row || rests_at k xs relation row) is
    ∙ ap (λ b. have_at k (ranges_in new) relation row || b) (rest_last rest part k relation row)
    ∙ ap (λ n. have_at k (ranges_in new) relation row || (rests_at k rest relation row || (n == k && have (ranges_in part.lists) relation row))) keys
    ∙ ap (λ b. have_at k (ranges_in new) relation row || (rests_at k rest relation row || (key == k && b))) (same relation row below)
    ∙ turn (have_at k (ranges_in new) relation row) (rests_at k rest relation row) (key == k && have (ranges_in others) relation row)
    ∙ ap (λ b. b || rests_at k rest relation row) (taken k relation row below)
    ∙ by (have_at k (ranges_in old) relation row) (key == k) (have parts relation row) (rests_at k rest relation row)
  where
    turn : (a r p : Bool) → (a || (r || p)) ≡ ((a || p) || r)
    turn true r p = refl
    turn false true true = refl
    turn false true false = refl
    turn false false true = refl
    turn false false false = refl

    by : (a e p r : Bool) → (((a || (e && false)) || (e && p)) || r) ≡ ((a || r) || (e && p))
    by true e p r = refl
    by false true true true = refl
    by false true true false = refl
    by false true false true = refl
    by false true false false = refl
    by false false p true = refl
    by false false p false = refl

pub take_both : (old new lists : List Spans) (rest more others : List KeyLists) → TellAll (ranges_in old) (ranges_in new) (ranges_in lists) → RestAll rest more others → TellBoth old rest new more lists others
take_both old new lists rest more others one other k relation row below =
    ap (λ b. b || rests_at k more relation row) (one k relation row below)
    ∙ ap (λ b. (have_at k (ranges_in old) relation row || have_at k (ranges_in lists) relation row) || b) (other k relation row below)
    ∙ by (have_at k (ranges_in old) relation row) (have_at k (ranges_in lists) relation row) (rests_at k rest relation row) (rests_at k others relation row)
  where
    by : (a l r o : Bool) → ((a || l) || (r || o)) ≡ ((a || r) || (l || o))
    by true l r o = refl
    by false true true o = refl
    by false true false o = refl
    by false false true o = refl
    by false false false o = refl
