-- Ranges that grow above, kept before one that lies behind them; and how many ranges there are after each step.
use Rattle.std.proofs.Common.{◌≡◌, ℕ, zero, suc, ◌+◌, ◌-◌, ◌<◌, ◌≤◌, Bool, true, false, ◌||◌, List, [], ◌∷◌, length, take, get_or, slice_set, refl, sym, ap, ◌∙◌, arith}
use Rattle.std.specs.Prelude.{nat_lt, if◌then◌else◌}
use Rattle.lt_face.specs.Keys.{end_key}
use Rattle.lt_face.specs.State.{Row}
use Rattle.lt_face.specs.declared.key.Gap.{Gap}
use Rattle.lt_sense.specs.declared.covering.KeptGap.{KeptGap}
use Rattle.lt_sense.specs.declared.spans.Spans.{Spans}
use Rattle.lt_sense.specs.Sense.{gap_covers}
use Rattle.lt_sense.specs.Held.{open_count, held}
use Rattle.lt_sense.specs.Spans.{have, growing, HaveSameRows, HaveAlso, IsSpans, GrowAlike}
use Rattle.lt_sense.proofs.Costs.{count_le, count_some, open_next, open_emptied}
use Rattle.lt_sense.proofs.Done.{all_set, length_set}
use Rattle.lt_sense.proofs.Spanned.{all_of, range_in, have_all, covers_nothing, gap_is}

-- one of those that grow becomes empty
growing_emptied : (n : ℕ) (columns : List ℕ) (at : Row) (k : ℕ) (above : List Gap) (i : ℕ) (gap none : Gap) (relation : ℕ) (row : Row) → i < length above → gap ≡ get_or above i gap → none.hi ≤ none.lo
    → have (growing n columns at k above) relation row ≡ (have (growing n columns at k (slice_set above i none)) relation row || gap_covers (range_in n columns (take (i + k) at) gap.lo gap.hi) relation row)
growing_emptied n columns at k [] i gap none relation row lt there empty = absurd (omega (arith, lt))
growing_emptied n columns at k (g ∷ gs) zero gap none relation row lt there empty =
    ap (λ (x : Gap). gap_covers (range_in n columns (take k at) x.lo x.hi) relation row || have (growing n columns at (suc k) gs) relation row) (sym there)
    ∙ turn (gap_covers (range_in n columns (take k at) gap.lo gap.hi) relation row) (have (growing n columns at (suc k) gs) relation row)
    ∙ ap (λ b. (b || have (growing n columns at (suc k) gs) relation row) || gap_covers (range_in n columns (take k at) gap.lo gap.hi) relation row) (sym (covers_nothing n columns (take k at) none.lo none.hi empty relation row))
    ∙ (let e : k ≡ zero + k = omega arith in ap (λ m. (gap_covers (range_in n columns (take k at) none.lo none.hi) relation row || have (growing n columns at (suc k) gs) relation row) || gap_covers (range_in n columns (take m at) gap.lo gap.hi) relation row) e)
  where
    turn : (a b : Bool) → (a || b) ≡ ((false || b) || a)
    turn true true = refl
    turn true false = refl
    turn false true = refl
    turn false false = refl
growing_emptied n columns at k (g ∷ gs) (suc i) gap none relation row lt there empty =
    ap (λ b. gap_covers (range_in n columns (take k at) g.lo g.hi) relation row || b) (growing_emptied n columns at (suc k) gs i gap none relation row (omega (arith, lt)) there empty)
    ∙ group (gap_covers (range_in n columns (take k at) g.lo g.hi) relation row) (have (growing n columns at (suc k) (slice_set gs i none)) relation row) (gap_covers (range_in n columns (take (i + suc k) at) gap.lo gap.hi) relation row)
    ∙ (let e : i + suc k ≡ suc i + k = omega arith in ap (λ m. (gap_covers (range_in n columns (take k at) g.lo g.hi) relation row || have (growing n columns at (suc k) (slice_set gs i none)) relation row) || gap_covers (range_in n columns (take m at) gap.lo gap.hi) relation row) e)
  where
    group : (a b c : Bool) → (a || (b || c)) ≡ ((a || b) || c)
    group true b c = refl
    group false b c = refl

-- it is kept
pub settled_rows : (kept more : List KeptGap) (n : ℕ) (columns : List ℕ) (at : Row) (above : List Gap) (lo hi i : ℕ) (gap none : Gap) → i < length above → gap ≡ get_or above i gap → none.hi ≤ none.lo → HaveAlso kept more (range_in n columns (take i at) gap.lo gap.hi)
    → HaveSameRows (all_of more n columns at (slice_set above i none) lo hi) (all_of kept n columns at above lo hi)
settled_rows kept more n columns at above lo hi i gap none lt there empty also relation row below =
    have_all more n columns at (slice_set above i none) lo hi relation row
    ∙ ap (λ b. b || (have (growing n columns at 0 (slice_set above i none)) relation row || gap_covers (range_in n columns at lo hi) relation row)) (also relation row below)
    ∙ by (have kept relation row) (gap_covers (range_in n columns (take i at) gap.lo gap.hi) relation row) (have (growing n columns at 0 (slice_set above i none)) relation row) (gap_covers (range_in n columns at lo hi) relation row)
    ∙ (let e : i ≡ i + 0 = omega arith in ap (λ m. have kept relation row || ((have (growing n columns at 0 (slice_set above i none)) relation row || gap_covers (range_in n columns (take m at) gap.lo gap.hi) relation row) || gap_covers (range_in n columns at lo hi) relation row)) e)
    ∙ ap (λ b. have kept relation row || (b || gap_covers (range_in n columns at lo hi) relation row)) (sym (growing_emptied n columns at 0 above i gap none relation row lt there empty))
    ∙ sym (have_all kept n columns at above lo hi relation row)
  where
    by : (k c g x : Bool) → ((k || c) || (g || x)) ≡ (k || ((g || c) || x))
    by true c g x = refl
    by false true true x = refl
    by false true false x = refl
    by false false true x = refl
    by false false false x = refl

pub settled_sound : (kept new : Spans) (i : ℕ) (none : Gap) → IsSpans kept → none.lo ≤ none.hi → new.runs.items ≡ kept.runs.items → new.cells.items ≡ kept.cells.items → new.ranges.items ≡ kept.ranges.items → new.columns ≡ kept.columns → new.at ≡ kept.at → new.lo ≡ kept.lo → new.hi ≡ kept.hi
    → new.above.items ≡ slice_set kept.above.items i none → IsSpans new
settled_sound kept new i none sound up runs cells ranges columns at lo hi above = record {
  runs = rw (runs, cells) sound.runs;
  ranges = rw (ranges, runs) sound.ranges;
  narrow = rw columns sound.narrow;
  depth = rw (above, at) (length_set kept.above.items i none ∙ sound.depth);
  risen = rw above (all_set (λ (gap : Gap). gap.lo ≤ gap.hi) kept.above.items i none sound.risen up);
  here = rw (lo, hi) sound.here;
}

-- ---- how many there are

pub held_settled : (s kept : Spans) (i : ℕ) (gap none : Gap) → GrowAlike s kept → length kept.ranges.items ≤ length s.ranges.items + (if nat_lt gap.lo gap.hi then 1 else 0) → i < length s.above.items → gap ≡ get_or s.above.items i gap → gap.lo < gap.hi → none.hi ≤ none.lo
    → length kept.ranges.items + (open_count (slice_set kept.above.items i none) + (if nat_lt kept.lo kept.hi then 1 else 0)) ≤ held s
held_settled s kept i gap none alike few lt there some empty =
    let a = open_emptied s.above.items i gap none lt there some empty in
    let b = count_some gap.lo gap.hi some in
    rw (alike.above, alike.lo, alike.hi) (omega (arith, few, a, b))

pub held_begun : (s kept : Spans) (lo hi : ℕ) → GrowAlike s kept → length kept.ranges.items ≤ length s.ranges.items + (if nat_lt s.lo s.hi then 1 else 0) → length kept.ranges.items + (open_count kept.above.items + (if nat_lt lo hi then 1 else 0)) ≤ held s + 1
held_begun s kept lo hi alike few = rw alike.above (let b = count_le (nat_lt lo hi) in omega (arith, few, b))

-- the last of those above goes, with what grew below it
pub held_risen : (s kept : Spans) (gap : Gap) → IsSpans s → 0 < length s.at → gap ≡ get_or s.above.items (length s.at - 1) gap → GrowAlike s kept → length kept.ranges.items ≤ length s.ranges.items + (if nat_lt s.lo s.hi then 1 else 0)
    → length kept.ranges.items + (open_count (take (length kept.above.items - 1) kept.above.items) + (if nat_lt gap.lo gap.hi then 1 else 0)) ≤ held s
held_risen s kept gap sound below there alike few =
    let e = ap open_count (gap_is s gap sound below there) ∙ open_next (take (length s.above.items - 1) s.above.items) gap in
    rw alike.above (omega (arith, few, e))

-- what grew below it was all, and counts as the range above
pub held_folded : (s kept : Spans) (gap : Gap) (lo hi : ℕ) → IsSpans s → 0 < length s.at → gap ≡ get_or s.above.items (length s.at - 1) gap → (s.lo ≡ 0) × (s.hi ≡ end_key) → kept.above.items ≡ s.above.items → length kept.ranges.items ≤ length s.ranges.items + (if nat_lt gap.lo gap.hi then 1 else 0)
    → length kept.ranges.items + (open_count (take (length kept.above.items - 1) kept.above.items) + (if nat_lt lo hi then 1 else 0)) ≤ held s
held_folded s kept gap lo hi sound below there all above few =
    let e = ap open_count (gap_is s gap sound below there) ∙ open_next (take (length s.above.items - 1) s.above.items) gap in
    let b = count_le (nat_lt lo hi) in
    let w = count_some s.lo s.hi (let x = all.0 in let y = all.1 in let z : 0 < end_key = omega arith in omega (arith, x, y, z)) in
    rw above (omega (arith, few, e, b, w))
