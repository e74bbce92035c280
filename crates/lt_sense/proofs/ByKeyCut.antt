-- Lists of ranges without the rows of some keys.
use Rattle.std.proofs.Common.{◌≡◌, ℕ, ◌+◌, ◌<◌, Bool, true, false, not, ◌&&◌, ◌||◌, List, [], ◌∷◌, ◌++◌, map, length, take, get_or, refl, sym, ap, ◌∙◌}
use Rattle.std.specs.Prelude.{◌==◌}
use Rattle.std.specs.List.{list_any}
use Rattle.std.proofs.lemmas.Bool.{eqb-true}
use Rattle.std.proofs.lemmas.List.Folds.{list_any-append}
use Rattle.lt_face.specs.State.{Row, permuted}
use Rattle.lt_sense.specs.declared.covering.KeptGap.{KeptGap}
use Rattle.lt_sense.specs.declared.pieces.Piece.{Piece}
use Rattle.lt_sense.specs.declared.spans.Span.{Span}
use Rattle.lt_sense.specs.declared.spans.Spans.{Spans}
use Rattle.lt_sense.specs.ByKey.{gap_at, have_at, has_key}
use Rattle.lt_sense.specs.ByKeyTold.{begins_in, HaveBut, HaveAllBut, TellBut}
use Rattle.lt_sense.specs.Clipped.{begins}
use Rattle.lt_sense.specs.Done.{IsDone}
use Rattle.lt_sense.specs.Gathered.{ranges_in}
use Rattle.lt_sense.specs.Pieces.{piece_of}
use Rattle.lt_sense.specs.Sense.{gap_covers}
use Rattle.lt_sense.specs.Spans.{have, still, stills, under, ranges_of, HaveSameRows, IsOfSame}
use Rattle.lt_sense.proofs.ByKeyAdded.{any_last, list_at}
use Rattle.lt_sense.proofs.ByKeyTaken.{take_image}
use Rattle.lt_sense.proofs.Done.{done_have}
use Rattle.lt_sense.proofs.Lies.{get_there, take_next}
use Rattle.lt_sense.proofs.Spanned.{last_prefix, or_none, range_in}

or_right_of : (a b c : Bool) → ((a || b) || c) ≡ (a || (b || c))
or_right_of true b c = refl
or_right_of false b c = refl

any_end : {X : Type 0} (p : X → Bool) (xs : List X) (x : X) → list_any p (xs ++ x ∷ []) ≡ (list_any p xs || p x)
any_end p xs x = list_any-append p xs (x ∷ []) ∙ ap (λ b. list_any p xs || b) (or_none (p x))

-- one range more
pub but_next : (keys : List ℕ) (s : Spans) (i : ℕ) (span : Span) (piece : Piece) (prefix : Row) (old mid new : List KeptGap) → i < length s.ranges.items → span ≡ get_or s.ranges.items i span → span.run < length s.runs.items → piece ≡ get_or s.runs.items span.run piece → prefix ≡ piece_of s.cells.items piece
    → HaveAllBut keys old mid (take i (stills s)) → HaveBut keys mid new (under s prefix span.lo span.hi) → HaveAllBut keys old new (take (i + 1) (stills s))
but_next keys s i span piece prefix old mid new lt there within run is all but relation row below =
    let p : KeptGap → Bool = λ (range : KeptGap). gap_covers range relation row && not (begins_in keys (permuted range.columns row)) in
    let it : KeptGap = still s.relation s.columns s.runs.items s.cells.items span in
    let same : under s prefix span.lo span.hi ≡ it = ap (λ cs. range_in s.relation s.columns cs span.lo span.hi) (is ∙ sym (last_prefix s.runs.items s.cells.items span.run piece (get_there s.runs.items span.run piece within run))) in
    but relation row below
    ∙ ap (λ b. b || p (under s prefix span.lo span.hi)) (all relation row below)
    ∙ ap (λ range. (have old relation row || list_any p (take i (stills s))) || p range) same
    ∙ or_right_of (have old relation row) (list_any p (take i (stills s))) (p it)
    ∙ ap (λ b. have old relation row || b) (sym (any_end p (take i (stills s)) it))
    ∙ ap (λ ranges. have old relation row || list_any p ranges) (sym (take_image (still s.relation s.columns s.runs.items s.cells.items) s.ranges.items i span lt there))

-- ---- all ranges of a list

or_and : (a b c : Bool) → ((a || b) && c) ≡ ((a && c) || (b && c))
or_and true true true = refl
or_and true true false = refl
or_and true false true = refl
or_and true false false = refl
or_and false b c = refl

all_but : (keys : List ℕ) (n : ℕ) (columns : List ℕ) (runs : List Piece) (cells : List ℕ) (spans : List Span) (relation : ℕ) (row : Row)
    → list_any (λ (range : KeptGap). gap_covers range relation row && not (begins_in keys (permuted range.columns row))) (map (still n columns runs cells) spans) ≡ (have (map (still n columns runs cells) spans) relation row && not (begins_in keys (permuted columns row)))
all_but keys n columns runs cells [] relation row = refl
all_but keys n columns runs cells (x ∷ xs) relation row =
    ap (λ b. (gap_covers (still n columns runs cells x) relation row && not (begins_in keys (permuted columns row))) || b) (all_but keys n columns runs cells xs relation row)
    ∙ sym (or_and (gap_covers (still n columns runs cells x) relation row) (have (map (still n columns runs cells) xs) relation row) (not (begins_in keys (permuted columns row))))

-- cells that begin with the key begin with one of the keys just if it is one
but_key : (keys : List ℕ) (key : ℕ) (b : Bool) (cells : Row) → ((b && not (begins_in keys cells)) && begins key cells) ≡ ((b && begins key cells) && not (has_key keys key))
but_key keys key false cells = refl
but_key keys key true [] = refl
but_key keys key true (x ∷ xs) = by (key == x) refl
  where
    turn : (a : Bool) → (a && true) ≡ (true && a)
    turn true = refl
    turn false = refl

    and_false : (a : Bool) → (a && false) ≡ false
    and_false true = refl
    and_false false = refl

    by : (b : Bool) → b ≡ (key == x) → (not (has_key keys x) && b) ≡ (b && not (has_key keys key))
    by true e = turn (not (has_key keys x)) ∙ ap (λ y. not (has_key keys y)) (sym (eqb-true key x (sym e)))
    by false e = and_false (not (has_key keys x))

pub cut_tells : (keys : List ℕ) (s made t : Spans) → IsDone s → HaveSameRows (ranges_of made) [] → made.columns ≡ s.columns → IsOfSame made t → HaveAllBut keys (ranges_of made) (ranges_of t) (stills s) → TellBut keys (ranges_of s) (ranges_of t)
cut_tells keys s made t done none columns same all key relation row below =
    list_at key t relation row
    ∙ ap (λ cs. have (ranges_of t) relation row && begins key (permuted cs row)) (same.columns ∙ columns)
    ∙ ap (λ b. b && begins key (permuted s.columns row))
    (all relation row below
    ∙ ap (λ b. b || list_any (λ (range : KeptGap). gap_covers range relation row && not (begins_in keys (permuted range.columns row))) (stills s)) (none relation row below)
    ∙ all_but keys s.relation s.columns s.runs.items s.cells.items s.ranges.items relation row)
    ∙ but_key keys key (have (stills s) relation row) (permuted s.columns row)
    ∙ ap (λ b. (b && begins key (permuted s.columns row)) && not (has_key keys key)) (sym (done_have s done relation row))
    ∙ ap (λ b. b && not (has_key keys key)) (sym (list_at key s relation row))

-- ---- one list more

pub cut_next : (keys : List ℕ) (lists : List Spans) (i : ℕ) (s t : Spans) (left new : List Spans) → i < length lists → s ≡ get_or lists i s → new ≡ left ++ t ∷ [] → TellBut keys (ranges_in (take i lists)) (ranges_in left) → TellBut keys (ranges_of s) (ranges_of t)
    → TellBut keys (ranges_in (take (i + 1) lists)) (ranges_in new)
cut_next keys lists i s t left new lt there is so one key relation row below =
    let p : KeptGap → Bool = λ (gap : KeptGap). gap_at key gap relation row in
    ap (λ xs. have_at key (ranges_in xs) relation row) is
    ∙ any_last p left t
    ∙ ap (λ b. b || have_at key (ranges_of t) relation row) (so key relation row below)
    ∙ ap (λ b. (have_at key (ranges_in (take i lists)) relation row && not (has_key keys key)) || b) (one key relation row below)
    ∙ sym (or_and (have_at key (ranges_in (take i lists)) relation row) (have_at key (ranges_of s) relation row) (not (has_key keys key)))
    ∙ ap (λ b. b && not (has_key keys key)) (sym (any_last p (take i lists) s))
    ∙ ap (λ xs. have_at key (ranges_in xs) relation row && not (has_key keys key)) (sym (take_next lists i s lt there))
