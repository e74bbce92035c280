-- Which list has a row.
use Rattle.std.proofs.Common.{◌≡◌, ◌≢◌, ℕ, zero, suc, ◌+◌, ◌<◌, Bool, true, false, ◌&&◌, ◌||◌, List, [], ◌∷◌, map, length, drop, get_or, refl, sym, ap, ◌∙◌, arith}
use Rattle.std.proofs.lemmas.Bool.{ne_eqb}
use Rattle.lt_face.specs.State.{Row, permuted}
use Rattle.lt_face.specs.declared.key.Gap.{Gap}
use Rattle.lt_sense.specs.declared.covering.KeptGap.{KeptGap}
use Rattle.lt_sense.specs.declared.spans.Span.{Span}
use Rattle.lt_sense.specs.declared.spans.Spans.{Spans}
use Rattle.lt_sense.specs.declared.pieces.Piece.{Piece}
use Rattle.lt_sense.specs.Sense.{lies_in, gap_covers}
use Rattle.lt_sense.specs.Spans.{have, still, growing, under, stills, ranges_of}
use Rattle.lt_sense.specs.Gathered.{ranges_in}
use Rattle.lt_sense.proofs.Said.{have_first}
use Rattle.lt_sense.proofs.Spanned.{have_all}

none_both : (a b : Bool) → a ≡ false → b ≡ false → (a || b) ≡ false
none_both true b e f = e
none_both false b e f = f

covers_other : (range : KeptGap) (relation : ℕ) (row : Row) → range.relation ≢ relation → gap_covers range relation row ≡ false
covers_other range relation row differs = ap (λ b. b && lies_in range.prefix range.lo range.hi (permuted range.columns row)) (ne_eqb range.relation relation differs)

stills_other : (n : ℕ) (columns : List ℕ) (runs : List Piece) (cells : List ℕ) (spans : List Span) (relation : ℕ) (row : Row) → n ≢ relation → have (map (still n columns runs cells) spans) relation row ≡ false
stills_other n columns runs cells [] relation row differs = refl
stills_other n columns runs cells (x ∷ xs) relation row differs =
    none_both (gap_covers (still n columns runs cells x) relation row) (have (map (still n columns runs cells) xs) relation row)
    (covers_other (still n columns runs cells x) relation row differs) (stills_other n columns runs cells xs relation row differs)

growing_other : (n : ℕ) (columns : List ℕ) (at : Row) (k : ℕ) (gaps : List Gap) (relation : ℕ) (row : Row) → n ≢ relation → have (growing n columns at k gaps) relation row ≡ false
growing_other n columns at k [] relation row differs = refl
growing_other n columns at k (g ∷ gs) relation row differs =
    none_both (gap_covers _ relation row) (have (growing n columns at (suc k) gs) relation row)
    (covers_other _ relation row differs) (growing_other n columns at (suc k) gs relation row differs)

-- a list of another relation has none
pub list_other : (s : Spans) (relation : ℕ) (row : Row) → s.relation ≢ relation → have (ranges_of s) relation row ≡ false
list_other s relation row differs =
    have_all (stills s) s.relation s.columns s.at s.above.items s.lo s.hi relation row
    ∙ none_both (have (stills s) relation row) (have (growing s.relation s.columns s.at 0 s.above.items) relation row || gap_covers (under s s.at s.lo s.hi) relation row)
    (stills_other s.relation s.columns s.runs.items s.cells.items s.ranges.items relation row differs)
    (none_both (have (growing s.relation s.columns s.at 0 s.above.items) relation row) (gap_covers (under s s.at s.lo s.hi) relation row)
    (growing_other s.relation s.columns s.at 0 s.above.items relation row differs) (covers_other (under s s.at s.lo s.hi) relation row differs))

drop_list : (xs : List Spans) (i : ℕ) (s : Spans) → i < length xs → s ≡ get_or xs i s → drop i xs ≡ s ∷ drop (i + 1) xs
drop_list [] i s lt there = absurd (omega (arith, lt))
drop_list (x ∷ xs) zero s lt there = ap (λ y. y ∷ xs) (sym there)
drop_list (x ∷ xs) (suc i) s lt there = drop_list xs i s (omega (arith, lt)) there ∙ (let e : suc (i + 1) ≡ suc i + 1 = omega arith in ap (λ n. s ∷ drop n (x ∷ xs)) e)

-- the first of those that are left
pub first_left : (lists : List Spans) (i : ℕ) (s : Spans) (relation : ℕ) (row : Row) → i < length lists → s ≡ get_or lists i s → have (ranges_in (drop i lists)) relation row ≡ (have (ranges_of s) relation row || have (ranges_in (drop (i + 1) lists)) relation row)
first_left lists i s relation row lt there = ap (λ xs. have (ranges_in xs) relation row) (drop_list lists i s lt there) ∙ have_first s (drop (i + 1) lists) relation row
