-- A row that was met, as a range of an index of all columns.
use Rattle.std.proofs.Common.{◌≡◌, ℕ, ◌+◌, ◌-◌, ◌<◌, Bool, true, false, ◌&&◌, ◌||◌, List, [], ◌∷◌, ◌++◌, length, take, get_or, slice_set, slice_index, Result, Ok, Err, IfOk, refl, sym, ap, ◌∙◌, subst, arith}
use mathlib.Core.Bool.{true≢false}
use Rattle.std.specs.Prelude.{◌==◌}
use Rattle.std.proofs.lemmas.Bool.{and_parts, eqb-true}
use Rattle.lt_face.specs.Keys.{end_key}
use Rattle.lt_face.specs.State.{Row, row_eq, permuted}
use Rattle.lt_sense.specs.declared.covering.KeptGap.{KeptGap}
use Rattle.lt_sense.specs.declared.covering.Hit.{Hit}
use Rattle.lt_sense.specs.Sense.{lies_in, gap_covers, hit_covers}
use Rattle.lt_sense.specs.declared.spans.Spans.{Spans}
use Rattle.lt_sense.specs.Spans.{have, ranges_of, under, AreBelowEnd, HaveSameRows, HaveAlso}
use Rattle.lt_sense.specs.Gathered.{ranges_in, IsOrder, IsListOf, IsWholeListOf, HaveRow}
use Rattle.lt_sense.proofs.Holding.{row_tied, row_itself}
use Rattle.lt_sense.proofs.Lies.{length_map, get_there}
use Rattle.lt_sense.proofs.Said.{lies_row, same_permuted, have_set}
use Rattle.lt_sense.proofs.Sorted.{some_is}
use Rattle.std.proofs.lemmas.Option.{slice_get_within}
use Rattle.lt_sense.proofs.Spanned.{same_test, range_in, or_none, last_cell, permuted_below, index_below}

where_true : (b x y : Bool) → (b ≡ true → x ≡ y) → (b && x) ≡ (b && y)
where_true true x y f = f refl
where_true false x y f = refl

-- the cells in an order of all columns say which row it is
same_rows : (columns : List ℕ) (h row : Row) → IsOrder columns → length columns ≡ length h → length h ≡ length row → row_eq (permuted columns h) (permuted columns row) ≡ row_eq h row
same_rows columns h row order a b = same_test _ _ there back
  where
    there : row_eq (permuted columns h) (permuted columns row) ≡ true → row_eq h row ≡ true
    there k =
        let is = same_permuted columns h row order (sym a) (sym b ∙ sym a) (row_tied (permuted columns h) (permuted columns row) k) in
        subst (λ r. row_eq h r ≡ true) is (row_itself h)

    back : row_eq h row ≡ true → row_eq (permuted columns h) (permuted columns row) ≡ true
    back k = subst (λ r. row_eq (permuted columns h) (permuted columns r) ≡ true) (row_tied h row k) (row_itself (permuted columns h))

pub covers_row : (n : ℕ) (columns : List ℕ) (h : Row) (c : ℕ) → IsOrder columns → length columns ≡ length h → 0 < length h → c ≡ slice_index (permuted columns h) (length h - 1) → (relation : ℕ) (row : Row) → (n ≡ relation → length h ≡ length row)
    → gap_covers (range_in n columns (take (length h - 1) (permuted columns h)) c (c + 1)) relation row ≡ hit_covers (record { relation = n; row = h }) relation row
covers_row n columns h c order long some is relation row alike = where_true (n == relation) _ _ (λ e. inner (alike (eqb-true n relation e)))
  where
    cells : Row
    cells = permuted columns h

    cells_long : length cells ≡ length h
    cells_long = length_map (slice_index h) columns ∙ long

    whole : cells ≡ take (length h - 1) cells ++ c ∷ []
    whole = last_cell cells (length h - 1) (omega (arith, cells_long, some)) ∙ ap (λ x. take (length h - 1) cells ++ x ∷ []) (sym is)

    inner : length h ≡ length row → lies_in (take (length h - 1) cells) c (c + 1) (permuted columns row) ≡ row_eq h row
    inner b =
        lies_row (take (length h - 1) cells) c (permuted columns row) (length_map (slice_index row) columns ∙ long ∙ sym cells_long ∙ ap length whole ∙ next (take (length h - 1) cells))
        ∙ ap (λ xs. row_eq xs (permuted columns row)) (sym whole)
        ∙ same_rows columns h row order long b
      where
        next : (xs : Row) → length (xs ++ c ∷ []) ≡ length xs + 1
        next [] = refl
        next (x ∷ xs) = omega (arith, next xs)

-- it is added as a range
pub row_added : (old new : List KeptGap) (n : ℕ) (columns : List ℕ) (h : Row) (c : ℕ) → IsOrder columns → length columns ≡ length h → 0 < length h → c ≡ slice_index (permuted columns h) (length h - 1)
    → HaveAlso old new (range_in n columns (take (length h - 1) (permuted columns h)) c (c + 1)) → HaveRow old new (record { relation = n; row = h })
row_added old new n columns h c order long some is also relation row below more alike =
    also relation row below ∙ ap (λ b. have old relation row || b) (covers_row n columns h c order long some is relation row alike)

-- no row that may be asked for is it
row_never : (old new : List KeptGap) (hit : Hit) → HaveSameRows new old → ((relation : ℕ) (row : Row) → AreBelowEnd row → 0 < length row → (hit.relation ≡ relation → length hit.row ≡ length row) → hit_covers hit relation row ≡ true → true ≡ false) → HaveRow old new hit
row_never old new hit same never relation row below some alike =
    same relation row below
    ∙ sym (or_none (have old relation row))
    ∙ ap (λ b. have old relation row || b) (sym (same_test (hit_covers hit relation row) false (λ k. sym (never relation row below some alike k)) (λ k. absurd (true≢false (sym k)))))

pub row_past : (old new : List KeptGap) (n : ℕ) (columns : List ℕ) (h : Row) → slice_index (permuted columns h) (length h - 1) ≡ end_key → HaveSameRows new old → HaveRow old new (record { relation = n; row = h })
row_past old new n columns h past same = row_never old new (record { relation = n; row = h }) same (λ relation row below some alike k.
    let is : h ≡ row = row_tied h row (and_parts (n == relation) (row_eq h row) k).1 in
    let lt : slice_index (permuted columns h) (length h - 1) < end_key = subst (λ r. slice_index (permuted columns r) (length h - 1) < end_key) (sym is) (index_below (permuted columns row) (length h - 1) (permuted_below columns row below)) in
    absurd (omega (arith, lt, past)))

-- ---- the same in the list at a place

-- a list found there is the one that is said to be
pub place_is : (lists : List Spans) (at n width : ℕ) (s : Spans) → (place : IsWholeListOf lists n width at) → s ≡ get_or lists at s → s ≡ place.0
place_is lists at n width s place there = some_is s place.0 (sym (get_there lists at s (slice_get_within lists at place.0 place.1) there) ∙ place.1)

pub cells_long : (lists : List Spans) (at n : ℕ) (s : Spans) (h cells : Row) → IsWholeListOf lists n (length h) at → s ≡ get_or lists at s → cells ≡ permuted s.columns h → length cells ≡ length h
cells_long lists at n s h cells place there is =
    ap length is ∙ length_map (slice_index h) s.columns ∙ ap (λ (y : Spans). length y.columns) (place_is lists at n (length h) s place there) ∙ place.2.width_is

pub row_added_at : (lists : List Spans) (at n : ℕ) (s t new : Spans) (h cells : Row) (last c : ℕ) → IsWholeListOf lists n (length h) at → s ≡ get_or lists at s → t ≡ get_or lists at t → 0 < length h → last ≡ length h - 1 → cells ≡ permuted s.columns h → c ≡ slice_index cells last
    → HaveAlso (ranges_of t) (ranges_of new) (under t (take last cells) c (c + 1)) → HaveRow (ranges_in lists) (ranges_in (slice_set lists at new)) (record { relation = n; row = h })
row_added_at lists at n s t new h cells last c place s_there t_there some last_is cells_is c_is also =
    row_added (ranges_in lists) (ranges_in (slice_set lists at new)) n columns h c place.2.order place.2.width_is some
    (c_is ∙ ap (slice_index cells) last_is ∙ ap (λ xs. slice_index xs (length h - 1)) cells_same)
    (λ relation row below.
    have_set lists at t new (gap_covers (range_in n columns (take (length h - 1) (permuted columns h)) c (c + 1)) relation row) relation row (slice_get_within lists at place.0 place.1) t_there
    (also relation row below ∙ ap (λ range. have (ranges_of t) relation row || gap_covers range relation row) is))
  where
    columns : List ℕ
    columns = place.0.columns

    t_is : t ≡ place.0
    t_is = place_is lists at n (length h) t place t_there

    cells_same : cells ≡ permuted columns h
    cells_same = cells_is ∙ ap (λ (y : Spans). permuted y.columns h) (place_is lists at n (length h) s place s_there)

    is : under t (take last cells) c (c + 1) ≡ range_in n columns (take (length h - 1) (permuted columns h)) c (c + 1)
    is =
        ap (λ m. range_in m t.columns (take last cells) c (c + 1)) (ap (λ (y : Spans). y.relation) t_is ∙ place.2.relation_is)
        ∙ ap (λ cs. range_in n cs (take last cells) c (c + 1)) (ap (λ (y : Spans). y.columns) t_is)
        ∙ ap (λ k. range_in n columns (take k cells) c (c + 1)) last_is
        ∙ ap (λ xs. range_in n columns (take (length h - 1) xs) c (c + 1)) cells_same

-- a list of an order of all columns is one of all columns
pub whole_list : {E : Type 0} (result : Result ℕ E) (lists : List Spans) (n : ℕ) (columns : List ℕ) (width : ℕ) → length columns ≡ width → IsOrder columns → IfOk result (IsListOf lists n columns) → IfOk result (IsWholeListOf lists n width)
whole_list (Ok at) lists n columns width long order is =
    (is.0, is.1, record { relation_is = is.2; width_is = ap length is.3 ∙ long; order = subst IsOrder (sym is.3) order })
whole_list (Err e) lists n columns width long order is = tt
