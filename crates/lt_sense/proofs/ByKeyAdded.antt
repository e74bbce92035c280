-- Ranges that are added to a list of the same index, and what lists tell at keys then.
use Rattle.std.proofs.Common.{◌≡◌, ℕ, zero, suc, ◌+◌, ◌<◌, Bool, true, false, ◌&&◌, ◌||◌, List, [], ◌∷◌, ◌++◌, map, length, take, get_or, slice_set, refl, sym, ap, ◌∙◌, subst, arith}
use Rattle.std.specs.List.{list_any, AllByRecursion}
use Rattle.std.proofs.lemmas.List.Folds.{list_any-append}
use Rattle.lt_face.specs.State.{Row, permuted}
use Rattle.lt_face.specs.declared.key.Gap.{Gap}
use Rattle.lt_sense.specs.declared.covering.KeptGap.{KeptGap}
use Rattle.lt_sense.specs.declared.pieces.Piece.{Piece}
use Rattle.lt_sense.specs.declared.spans.Span.{Span}
use Rattle.lt_sense.specs.declared.spans.Spans.{Spans}
use Rattle.lt_sense.specs.ByKey.{gap_at, have_at}
use Rattle.lt_sense.specs.ByKeyTold.{TellSame, TellAlso, TellAll}
use Rattle.lt_sense.specs.Clipped.{begins}
use Rattle.lt_sense.specs.Gathered.{ranges_in, HaveAll, IsListOf}
use Rattle.lt_sense.specs.Sense.{gap_covers}
use Rattle.lt_sense.specs.Spans.{have, growing, still, stills, under, ranges_of, HaveAlso, HaveSameRows, IsOfSame}
use Rattle.std.proofs.lemmas.Option.{slice_get_within}
use Rattle.lt_sense.proofs.Lies.{get_there, take_next}
use Rattle.lt_sense.proofs.Sorted.{some_is}
use Rattle.lt_sense.proofs.Spanned.{range_in, or_none}

pub of_same_chain : (a b c : Spans) → IsOfSame a b → IsOfSame b c → IsOfSame a c
of_same_chain a b c one other = record { relation = other.relation ∙ one.relation; columns = other.columns ∙ one.columns }

pub also_of : (s other : Spans) (old new : List KeptGap) (prefix : Row) (lo hi : ℕ) → IsOfSame s other → HaveAlso old new (under s prefix lo hi) → HaveAlso old new (under other prefix lo hi)
also_of s other old new prefix lo hi same also =
    subst (HaveAlso old new) (ap (λ n. range_in n s.columns prefix lo hi) (sym same.relation) ∙ ap (λ cs. range_in other.relation cs prefix lo hi) (sym same.columns)) also

-- ---- one list: all its ranges have its columns

or_and : (a b c : Bool) → ((a || b) && c) ≡ ((a && c) || (b && c))
or_and true true c = both c
  where
    both : (c : Bool) → c ≡ (c || c)
    both true = refl
    both false = refl
or_and true false true = refl
or_and true false false = refl
or_and false b c = refl

-- ranges of these columns
at_columns : (key : ℕ) (columns : List ℕ) (ranges : List KeptGap) (relation : ℕ) (row : Row) → AllByRecursion (λ (range : KeptGap). range.columns ≡ columns) ranges → have_at key ranges relation row ≡ (have ranges relation row && begins key (permuted columns row))
at_columns key columns [] relation row h = refl
at_columns key columns (x ∷ xs) relation row h =
    ap (λ b. b || have_at key xs relation row) (ap (λ cs. gap_covers x relation row && begins key (permuted cs row)) h.0)
    ∙ ap (λ b. (gap_covers x relation row && begins key (permuted columns row)) || b) (at_columns key columns xs relation row h.1)
    ∙ sym (or_and (gap_covers x relation row) (have xs relation row) (begins key (permuted columns row)))

all_both : {X : Type 0} (P : X → Type 0) (xs ys : List X) → AllByRecursion P xs → AllByRecursion P ys → AllByRecursion P (xs ++ ys)
all_both P [] ys h k = k
all_both P (x ∷ xs) ys h k = (h.0, all_both P xs ys h.1 k)

stills_columns : (n : ℕ) (columns : List ℕ) (runs : List Piece) (cells : List ℕ) (spans : List Span) → AllByRecursion (λ (range : KeptGap). range.columns ≡ columns) (map (still n columns runs cells) spans)
stills_columns n columns runs cells [] = tt
stills_columns n columns runs cells (x ∷ xs) = (refl, stills_columns n columns runs cells xs)

growing_columns : (n : ℕ) (columns : List ℕ) (at : Row) (k : ℕ) (gaps : List Gap) → AllByRecursion (λ (range : KeptGap). range.columns ≡ columns) (growing n columns at k gaps)
growing_columns n columns at k [] = tt
growing_columns n columns at k (g ∷ gs) = (refl, growing_columns n columns at (suc k) gs)

pub of_columns : (s : Spans) → AllByRecursion (λ (range : KeptGap). range.columns ≡ s.columns) (ranges_of s)
of_columns s =
    all_both (λ (range : KeptGap). range.columns ≡ s.columns) (stills s) (growing s.relation s.columns s.at 0 s.above.items ++ under s s.at s.lo s.hi ∷ []) (stills_columns s.relation s.columns s.runs.items s.cells.items s.ranges.items)
    (all_both (λ (range : KeptGap). range.columns ≡ s.columns) (growing s.relation s.columns s.at 0 s.above.items) (under s s.at s.lo s.hi ∷ []) (growing_columns s.relation s.columns s.at 0 s.above.items) (refl, tt))

-- what a list tells at a key
pub list_at : (key : ℕ) (s : Spans) (relation : ℕ) (row : Row) → have_at key (ranges_of s) relation row ≡ (have (ranges_of s) relation row && begins key (permuted s.columns row))
list_at key s relation row = at_columns key s.columns (ranges_of s) relation row (of_columns s)

-- a list of the same index with the same rows, or with those of ranges of the same columns too
pub list_same : (s t : Spans) → IsOfSame s t → HaveSameRows (ranges_of t) (ranges_of s) → TellSame (ranges_of t) (ranges_of s)
list_same s t same rows key relation row below =
    list_at key t relation row
    ∙ ap (λ b. b && begins key (permuted t.columns row)) (rows relation row below)
    ∙ ap (λ cs. have (ranges_of s) relation row && begins key (permuted cs row)) same.columns
    ∙ sym (list_at key s relation row)

pub list_gains : (s t : Spans) (more : List KeptGap) → IsOfSame s t → AllByRecursion (λ (range : KeptGap). range.columns ≡ s.columns) more → HaveAll (ranges_of s) (ranges_of t) more → TellAll (ranges_of s) (ranges_of t) more
list_gains s t more same columns all key relation row below =
    list_at key t relation row
    ∙ ap (λ b. b && begins key (permuted t.columns row)) (all relation row below)
    ∙ ap (λ cs. (have (ranges_of s) relation row || have more relation row) && begins key (permuted cs row)) same.columns
    ∙ or_and (have (ranges_of s) relation row) (have more relation row) (begins key (permuted s.columns row))
    ∙ ap (λ b. b || (have more relation row && begins key (permuted s.columns row))) (sym (list_at key s relation row))
    ∙ ap (λ b. have_at key (ranges_of s) relation row || b) (sym (at_columns key s.columns more relation row columns))

pub list_also : (s t : Spans) (range : KeptGap) → IsOfSame s t → range.columns ≡ s.columns → HaveAlso (ranges_of s) (ranges_of t) range → TellAlso (ranges_of s) (ranges_of t) range
list_also s t range same columns also key relation row below =
    list_gains s t (range ∷ []) same (columns, tt) (λ n r b. also n r b ∙ ap (λ x. have (ranges_of s) n r || x) (sym (or_none (gap_covers range n r)))) key relation row below
    ∙ ap (λ x. have_at key (ranges_of s) relation row || x) (or_none (gap_at key range relation row))

-- ---- one list of several

pub any_first : (p : KeptGap → Bool) (s : Spans) (rest : List Spans) → list_any p (ranges_in (s ∷ rest)) ≡ (list_any p (ranges_of s) || list_any p (ranges_in rest))
any_first p s rest = list_any-append p (ranges_of s) (ranges_in rest)

pub any_set : (p : KeptGap → Bool) (lists : List Spans) (at : ℕ) (s t : Spans) (c : Bool) → at < length lists → s ≡ get_or lists at s → list_any p (ranges_of t) ≡ (list_any p (ranges_of s) || c) → list_any p (ranges_in (slice_set lists at t)) ≡ (list_any p (ranges_in lists) || c)
any_set p [] at s t c lt there is = absurd (omega (arith, lt))
any_set p (x ∷ xs) zero s t c lt there is =
    any_first p t xs
    ∙ ap (λ b. b || list_any p (ranges_in xs)) (is ∙ ap (λ y. list_any p (ranges_of y) || c) there)
    ∙ by (list_any p (ranges_of x)) c (list_any p (ranges_in xs))
    ∙ ap (λ b. b || c) (sym (any_first p x xs))
  where
    by : (a c r : Bool) → ((a || c) || r) ≡ ((a || r) || c)
    by true c r = refl
    by false true true = refl
    by false true false = refl
    by false false true = refl
    by false false false = refl
any_set p (x ∷ xs) (suc i) s t c lt there is =
    any_first p x (slice_set xs i t)
    ∙ ap (λ b. list_any p (ranges_of x) || b) (any_set p xs i s t c (omega (arith, lt)) there is)
    ∙ by (list_any p (ranges_of x)) (list_any p (ranges_in xs)) c
    ∙ ap (λ b. b || c) (sym (any_first p x xs))
  where
    by : (a r c : Bool) → (a || (r || c)) ≡ ((a || r) || c)
    by true r c = refl
    by false r c = refl

pub tell_set_same : (lists : List Spans) (at : ℕ) (s t : Spans) → at < length lists → s ≡ get_or lists at s → TellSame (ranges_of t) (ranges_of s) → TellSame (ranges_in (slice_set lists at t)) (ranges_in lists)
tell_set_same lists at s t lt there same key relation row below =
    any_set (λ (gap : KeptGap). gap_at key gap relation row) lists at s t false lt there (same key relation row below ∙ sym (or_none (have_at key (ranges_of s) relation row)))
    ∙ or_none (have_at key (ranges_in lists) relation row)

pub tell_set_all : (lists : List Spans) (at : ℕ) (s t : Spans) (more : List KeptGap) → at < length lists → s ≡ get_or lists at s → TellAll (ranges_of s) (ranges_of t) more → TellAll (ranges_in lists) (ranges_in (slice_set lists at t)) more
tell_set_all lists at s t more lt there all key relation row below =
    any_set (λ (gap : KeptGap). gap_at key gap relation row) lists at s t (have_at key more relation row) lt there (all key relation row below)

pub tell_set_also : (lists : List Spans) (at : ℕ) (s t : Spans) (range : KeptGap) → at < length lists → s ≡ get_or lists at s → TellAlso (ranges_of s) (ranges_of t) range → TellAlso (ranges_in lists) (ranges_in (slice_set lists at t)) range
tell_set_also lists at s t range lt there also key relation row below =
    any_set (λ (gap : KeptGap). gap_at key gap relation row) lists at s t (gap_at key range relation row) lt there (also key relation row below)

-- ---- at the end

pub any_last : (p : KeptGap → Bool) (lists : List Spans) (s : Spans) → list_any p (ranges_in (lists ++ s ∷ [])) ≡ (list_any p (ranges_in lists) || list_any p (ranges_of s))
any_last p [] s = any_first p s [] ∙ or_none (list_any p (ranges_of s))
any_last p (x ∷ xs) s =
    any_first p x (xs ++ s ∷ [])
    ∙ ap (λ b. list_any p (ranges_of x) || b) (any_last p xs s)
    ∙ by (list_any p (ranges_of x)) (list_any p (ranges_in xs)) (list_any p (ranges_of s))
    ∙ ap (λ b. b || list_any p (ranges_of s)) (sym (any_first p x xs))
  where
    by : (a r c : Bool) → (a || (r || c)) ≡ ((a || r) || c)
    by true r c = refl
    by false r c = refl

pub tell_none : (ranges : List KeptGap) → TellAll ranges ranges []
tell_none ranges key relation row below = sym (or_none (have_at key ranges relation row))

or_right : (a b c : Bool) → ((a || b) || c) ≡ (a || (b || c))
or_right true b c = refl
or_right false b c = refl

pub tell_next : (others : List Spans) (i : ℕ) (s : Spans) (old mid new : List KeptGap) → i < length others → s ≡ get_or others i s → TellAll old mid (ranges_in (take i others)) → TellAll mid new (ranges_of s) → TellAll old new (ranges_in (take (i + 1) others))
tell_next others i s old mid new lt there all more key relation row below =
    let p = λ (gap : KeptGap). gap_at key gap relation row in
    more key relation row below
    ∙ ap (λ b. b || have_at key (ranges_of s) relation row) (all key relation row below)
    ∙ or_right (have_at key old relation row) (have_at key (ranges_in (take i others)) relation row) (have_at key (ranges_of s) relation row)
    ∙ ap (λ b. have_at key old relation row || b) (sym (any_last p (take i others) s))
    ∙ ap (λ xs. have_at key old relation row || have_at key (ranges_in xs) relation row) (sym (take_next others i s lt there))

-- a list without rows
pub tell_empty : (s : Spans) (lists new : List Spans) → HaveSameRows (ranges_of s) [] → new ≡ lists ++ s ∷ [] → TellSame (ranges_in new) (ranges_in lists)
tell_empty s lists new none is key relation row below =
    ap (λ xs. have_at key (ranges_in xs) relation row) is
    ∙ any_last (λ (gap : KeptGap). gap_at key gap relation row) lists s
    ∙ ap (λ b. have_at key (ranges_in lists) relation row || b) (list_at key s relation row ∙ ap (λ b. b && begins key (permuted s.columns row)) (none relation row below))
    ∙ or_none (have_at key (ranges_in lists) relation row)

pub tell_chain : (a b c : List KeptGap) → TellSame b a → TellSame c b → TellSame c a
tell_chain a b c one other key relation row below = other key relation row below ∙ one key relation row below

pub also_after : (a b c : List KeptGap) (range : KeptGap) → TellSame b a → TellAlso b c range → TellAlso a c range
also_after a b c range one other key relation row below = other key relation row below ∙ ap (λ x. x || gap_at key range relation row) (one key relation row below)

pub all_after : (a b c more : List KeptGap) → TellSame b a → TellAll b c more → TellAll a c more
all_after a b c more one other key relation row below = other key relation row below ∙ ap (λ x. x || have_at key more relation row) (one key relation row below)

-- ---- the list at a place

pub placed_list : (lists : List Spans) (at relation : ℕ) (columns : List ℕ) (s : Spans) → s ≡ get_or lists at s → IsListOf lists relation columns at → (at < length lists) × (s.relation ≡ relation) × (s.columns ≡ columns)
placed_list lists at relation columns s there place =
    let lt : at < length lists = slice_get_within lists at place.0 place.1 in
    let same : s ≡ place.0 = some_is s place.0 (sym (get_there lists at s lt there) ∙ place.1) in (
      lt,
      ap (λ (y : Spans). y.relation) same ∙ place.2,
      ap (λ (y : Spans). y.columns) same ∙ place.3,
    )

pub placed_also : (lists : List Spans) (at relation : ℕ) (columns : List ℕ) (s t : Spans) (prefix : Row) (lo hi : ℕ) → s ≡ get_or lists at s → IsListOf lists relation columns at → IsOfSame s t → HaveAlso (ranges_of s) (ranges_of t) (under s prefix lo hi)
    → TellAlso (ranges_in lists) (ranges_in (slice_set lists at t)) (range_in relation columns prefix lo hi)
placed_also lists at relation columns s t prefix lo hi there place same also =
    let got = placed_list lists at relation columns s there place in
    subst (TellAlso (ranges_in lists) (ranges_in (slice_set lists at t))) (ap (λ n. range_in n s.columns prefix lo hi) got.1 ∙ ap (λ cs. range_in relation cs prefix lo hi) got.2)
    (tell_set_also lists at s t (under s prefix lo hi) got.0 there (list_also s t (under s prefix lo hi) same refl also))

pub placed_same : (lists : List Spans) (at relation : ℕ) (columns : List ℕ) (s t : Spans) → s ≡ get_or lists at s → IsListOf lists relation columns at → IsOfSame s t → HaveSameRows (ranges_of t) (ranges_of s) → TellSame (ranges_in (slice_set lists at t)) (ranges_in lists)
placed_same lists at relation columns s t there place same rows = tell_set_same lists at s t (placed_list lists at relation columns s there place).0 there (list_same s t same rows)

-- those of another list of the same index
pub placed_all : (lists : List Spans) (at : ℕ) (s t other : Spans) → s ≡ get_or lists at s → IsListOf lists other.relation other.columns at → IsOfSame s t → HaveAll (ranges_of s) (ranges_of t) (ranges_of other) → TellAll (ranges_in lists) (ranges_in (slice_set lists at t)) (ranges_of other)
placed_all lists at s t other there place same all =
    let got = placed_list lists at other.relation other.columns s there place in
    tell_set_all lists at s t (ranges_of other) got.0 there
    (list_gains s t (ranges_of other) same (subst (λ cs. AllByRecursion (λ (range : KeptGap). range.columns ≡ cs) (ranges_of other)) (sym got.2) (of_columns other)) all)
