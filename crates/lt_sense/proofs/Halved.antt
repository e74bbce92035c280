-- A row looked up among the ranges of an index that stand in order.
use Rattle.std.proofs.Common.{◌≡◌, ℕ, ◌+◌, ◌<◌, ◌≤◌, true, false, ◌||◌, List, [], ◌∷◌, length, drop, get_or, slice_get, slice_index, Some, refl, sym, ap, ◌∙◌, subst, arith, inl, inr}
use Rattle.std.specs.Prelude.{nat_lt, if◌then◌else◌}
use Rattle.std.specs.Ordering.{nat_cmp, is_eq, is_gt, ordering_then}
use Rattle.std.specs.declared.cmp.Ordering.TheVariants.{Less, Equal, Greater}
use Rattle.std.specs.Cmp.{nat_cmp_is}
use Rattle.std.proofs.lemmas.Bool.{and_right, cases_lt, lt-ltb, le-ltb}
use Rattle.lt_face.specs.Lists.{IsIn, AreInOrder}
use Rattle.lt_face.specs.State.{Row, permuted}
use Rattle.lt_face.proofs.Membership.{IsIn-map_from}
use Rattle.lt_sense.specs.declared.covering.KeptGap.{KeptGap}
use Rattle.lt_sense.specs.declared.spans.Span.{Span}
use Rattle.lt_sense.specs.declared.spans.Spans.{Spans}
use Rattle.lt_sense.specs.Sense.{lies_in, gap_covers}
use Rattle.lt_sense.specs.Apart.{stands, still_in, IsApart}
use Rattle.lt_sense.specs.Spans.{have, stills}
use Rattle.lt_sense.proofs.Growth.{any_there}
use Rattle.lt_sense.proofs.Lies.{drop_next, drop_done}
use Rattle.lt_sense.proofs.Sorted.{in_order_at, placed, same_at}
use Rattle.lt_sense.proofs.Stepped.{same_relation}
use Rattle.lt_sense.proofs.Stands.{stands_in, none_before, none_behind}

-- ---- cell by cell

at_next : (prefix cells : Row) (lo hi i : ℕ) → i < length prefix → i < length cells → stands (drop i prefix) lo hi (drop i cells) ≡ ordering_then (nat_cmp (slice_index prefix i) (slice_index cells i)) (stands (drop (i + 1) prefix) lo hi (drop (i + 1) cells))
at_next prefix cells lo hi i lt le = rw (drop_next prefix i lt, drop_next cells i le) refl

pub stands_tied : (prefix cells : Row) (lo hi i : ℕ) → i < length prefix → i < length cells → slice_index prefix i ≡ slice_index cells i → stands (drop i prefix) lo hi (drop i cells) ≡ stands (drop (i + 1) prefix) lo hi (drop (i + 1) cells)
stands_tied prefix cells lo hi i lt le e = at_next prefix cells lo hi i lt le ∙ ap (λ o. ordering_then o (stands (drop (i + 1) prefix) lo hi (drop (i + 1) cells))) (sym (nat_cmp_is (slice_index prefix i) (slice_index cells i) Equal e))

pub stands_less : (prefix cells : Row) (lo hi i : ℕ) → i < length prefix → i < length cells → slice_index prefix i < slice_index cells i → stands (drop i prefix) lo hi (drop i cells) ≡ Less
stands_less prefix cells lo hi i lt le e = at_next prefix cells lo hi i lt le ∙ ap (λ o. ordering_then o (stands (drop (i + 1) prefix) lo hi (drop (i + 1) cells))) (sym (nat_cmp_is (slice_index prefix i) (slice_index cells i) Less e))

pub stands_greater : (prefix cells : Row) (lo hi i : ℕ) → i < length prefix → i < length cells → slice_index cells i < slice_index prefix i → stands (drop i prefix) lo hi (drop i cells) ≡ Greater
stands_greater prefix cells lo hi i lt le e = at_next prefix cells lo hi i lt le ∙ ap (λ o. ordering_then o (stands (drop (i + 1) prefix) lo hi (drop (i + 1) cells))) (sym (nat_cmp_is (slice_index prefix i) (slice_index cells i) Greater e))

-- the cells have ended
pub stands_short : (prefix cells : Row) (lo hi i : ℕ) → length cells ≤ i → stands (drop i prefix) lo hi (drop i cells) ≡ Greater
stands_short prefix cells lo hi i done = rw (drop_done cells i done) (by (drop i prefix))
  where
    by : (ps : Row) → stands ps lo hi [] ≡ Greater
    by [] = refl
    by (p ∷ ps) = refl

-- the prefix has ended
pub stands_last : (prefix cells : Row) (lo hi i : ℕ) → length prefix ≤ i → i < length cells → stands (drop i prefix) lo hi (drop i cells) ≡ (if nat_lt (slice_index cells i) lo then Greater else (if nat_lt (slice_index cells i) hi then Equal else Less))
stands_last prefix cells lo hi i done lt = rw (drop_done prefix i done, drop_next cells i lt) refl

pub last_above : (prefix cells : Row) (lo hi i : ℕ) → length prefix ≤ i → i ≤ length prefix → length prefix < length cells → slice_index cells (length prefix) < lo → stands (drop i prefix) lo hi (drop i cells) ≡ Greater
last_above prefix cells lo hi i done upto lt below =
    let e : i ≡ length prefix = omega (arith, done, upto) in
    ap (λ n. stands (drop n prefix) lo hi (drop n cells)) e ∙ stands_last prefix cells lo hi (length prefix) (omega arith) lt ∙ rw (lt-ltb (slice_index cells (length prefix)) lo below) refl

pub last_here : (prefix cells : Row) (lo hi i : ℕ) → length prefix ≤ i → i ≤ length prefix → length prefix < length cells → lo ≤ slice_index cells (length prefix) → slice_index cells (length prefix) < hi → stands (drop i prefix) lo hi (drop i cells) ≡ Equal
last_here prefix cells lo hi i done upto lt from below =
    let e : i ≡ length prefix = omega (arith, done, upto) in
    ap (λ n. stands (drop n prefix) lo hi (drop n cells)) e ∙ stands_last prefix cells lo hi (length prefix) (omega arith) lt
    ∙ rw (le-ltb (slice_index cells (length prefix)) lo from, lt-ltb (slice_index cells (length prefix)) hi below) refl

pub last_below : (prefix cells : Row) (lo hi i : ℕ) → length prefix ≤ i → i ≤ length prefix → length prefix < length cells → lo ≤ slice_index cells (length prefix) → hi ≤ slice_index cells (length prefix) → stands (drop i prefix) lo hi (drop i cells) ≡ Less
last_below prefix cells lo hi i done upto lt from past =
    let e : i ≡ length prefix = omega (arith, done, upto) in
    ap (λ n. stands (drop n prefix) lo hi (drop n cells)) e ∙ stands_last prefix cells lo hi (length prefix) (omega arith) lt
    ∙ rw (le-ltb (slice_index cells (length prefix)) lo from, le-ltb (slice_index cells (length prefix)) hi past) refl

-- ---- by halves

-- those up to one that lies below the row don't have it
pub lower_none : (ranges : List KeptGap) (cells : Row) (middle : ℕ) (m : KeptGap) → AreInOrder IsApart ranges → slice_get ranges middle ≡ Some m → stands m.prefix m.lo m.hi cells ≡ Less → (p : ℕ) (g : KeptGap) → slice_get ranges p ≡ Some g → p < middle + 1 → lies_in g.prefix g.lo g.hi cells ≡ false
lower_none ranges cells middle m up at less p g there lt = elim (cases_lt p middle) [
  | inl below ↦ none_before g m cells (in_order_at IsApart ranges p middle g m up there at below) (ap is_gt less)
  | inr ge ↦ (let e = same_at ranges p middle g m there at (omega arith) in subst (λ x. lies_in x.prefix x.lo x.hi cells ≡ false) (sym e) (sym (stands_in m.prefix m.lo m.hi cells) ∙ ap is_eq less))
]

-- nor do those from one on that lies above it
pub upper_none : (ranges : List KeptGap) (cells : Row) (middle : ℕ) (m : KeptGap) → AreInOrder IsApart ranges → slice_get ranges middle ≡ Some m → stands m.prefix m.lo m.hi cells ≡ Greater → (p : ℕ) (g : KeptGap) → slice_get ranges p ≡ Some g → middle ≤ p → lies_in g.prefix g.lo g.hi cells ≡ false
upper_none ranges cells middle m up at greater p g there le = elim (cases_lt middle p) [
  | inl above ↦ none_behind m g cells (in_order_at IsApart ranges middle p m g up at there above) (ap is_gt greater)
  | inr ge ↦ (let e = same_at ranges p middle g m there at (omega arith) in subst (λ x. lies_in x.prefix x.lo x.hi cells ≡ false) (sym e) (sym (stands_in m.prefix m.lo m.hi cells) ∙ ap is_eq greater))
]

-- where none of an index has the cells, none has the row
pub none_still : (s : Spans) (row cells : Row) (low high : ℕ) → cells ≡ permuted s.columns row → high ≤ low
    → ((p : ℕ) (g : KeptGap) → slice_get (stills s) p ≡ Some g → p < low → lies_in g.prefix g.lo g.hi cells ≡ false) → ((p : ℕ) (g : KeptGap) → slice_get (stills s) p ≡ Some g → high ≤ p → lies_in g.prefix g.lo g.hi cells ≡ false)
    → have (stills s) s.relation row ≡ false
none_still s row cells low high is met before after = each (stills s) (λ g here. one g here (placed (stills s) g here))
  where
    none : (p : ℕ) (g : KeptGap) → slice_get (stills s) p ≡ Some g → lies_in g.prefix g.lo g.hi cells ≡ false
    none p g there = elim (cases_lt p low) [ inl lt ↦ before p g there lt | inr ge ↦ after p g there (omega (arith, ge, met)) ]

    one : (g : KeptGap) → IsIn g (stills s) → (p : ℕ) × (slice_get (stills s) p ≡ Some g) → gap_covers g s.relation row ≡ false
    one g here at =
        let from = IsIn-map_from (still_in s) g s.ranges.items here in
        let columns : g.columns ≡ s.columns = ap (λ (x : KeptGap). x.columns) (sym from.2) in
        and_right _ (lies_in g.prefix g.lo g.hi (permuted g.columns row)) (ap (λ cs. lies_in g.prefix g.lo g.hi (permuted cs row)) columns ∙ ap (lies_in g.prefix g.lo g.hi) (sym is) ∙ none at.0 g at.1)

    each : (ranges : List KeptGap) → ((g : KeptGap) → IsIn g ranges → gap_covers g s.relation row ≡ false) → have ranges s.relation row ≡ false
    each [] f = refl
    each (x ∷ xs) f = ap (λ b. b || have xs s.relation row) (f x (inl refl)) ∙ each xs (λ g here. f g (inr here))

-- and where one has them, the row is found
pub found_still : (s : Spans) (row cells : Row) (i : ℕ) (span : Span) → i < length s.ranges.items → span ≡ get_or s.ranges.items i span → cells ≡ permuted s.columns row → stands (still_in s span).prefix span.lo span.hi cells ≡ Equal → have (stills s) s.relation row ≡ true
found_still s row cells i span lt there is equal =
    any_there (λ range. gap_covers range s.relation row) (still_in s) s.ranges.items i span lt there
    (same_relation s.relation s.columns (still_in s span).prefix span.lo span.hi row ∙ ap (lies_in (still_in s span).prefix span.lo span.hi) (sym is) ∙ sym (stands_in (still_in s span).prefix span.lo span.hi cells) ∙ ap is_eq equal)
