-- Runs of rows of a base that rows laid over it leave as they are.
use Rattle.std.proofs.Common.{◌≡◌, ℕ, zero, suc, ◌<◌, ◌≤◌, Bool, true, false, cond, not, List, [], ◌∷◌, ◌++◌, length, take, slice_get, Option, Some, refl, sym, ap, ◌∙◌, subst, inl, inr, arith, append_assoc}
use Rattle.std.specs.Prelude.{fold, find, ◌⊎◌}
use mathlib.Core.Bool.{true≢false}
use Rattle.std.specs.List.{AllByRecursion}
use Rattle.std.specs.Ordering.{is_lt, is_eq}
use Rattle.std.specs.declared.cmp.Ordering.{Ordering}
use Rattle.std.specs.declared.cmp.Ordering.TheVariants.{Less, Equal, Greater}
use Rattle.std.proofs.lemmas.List.Elements.{filter-append}
use Rattle.lt_face.specs.Rows.{row_cmp, IsRow, IsAscending, IsRun, has_row, with_row, first_from}
use Rattle.lt_face.specs.State.{Row}
use Rattle.lt_face.proofs.RowLemmas.{rows_total, rows_exact, cmp_itself, less_back, greater_back, each_weaker, ascending-filter, ascending-with_row, with_row-after, with_row-before}
use Rattle.lt_face.proofs.Walked.{got_each}
use Rattle.lt_flat.specs.Flat.{kept}
use Rattle.lt_shared.proofs.Joins.{before_row, from_row, ascending-left, ascending-right, each-left, each-right}
use Rattle.lt_over.specs.Overlaid.{overlaid, lesser, is_reached, IsFront}
use Rattle.lt_over.proofs.Firsts.{up_from, found_each, found_passes, from_here, lesser_before, first-overlaid}

some_same : (x y : Row) → Some x ≡ Some y → x ≡ y
some_same x y e = cc

less_is : (o : Ordering) → is_lt o ≡ true → o ≡ Less
less_is Less h = refl
less_is Equal h = absurd (true≢false (sym h))
less_is Greater h = absurd (true≢false (sym h))

not_not : (b : Bool) → not b ≡ false → b ≡ true
not_not true h = refl
not_not false h = absurd (true≢false h)

not_true : (b : Bool) → not b ≡ true → b ≡ false
not_true true h = absurd (true≢false (sym h))
not_true false h = refl

-- ---- rows that stand apart from others

-- all of the rows are below this one, or all above
abbrev IsApart : List Row → Row → Type 0
IsApart run p = AllByRecursion (λ r. row_cmp r p ≡ Less) run ⊎ AllByRecursion (λ r. row_cmp r p ≡ Greater) run

above_of : (r p q : Row) → row_cmp p q ≡ Less → is_lt (row_cmp r q) ≡ false → row_cmp r p ≡ Greater
above_of r p q less h = less_back p r (by (row_cmp r q) refl)
  where
    by : (o : Ordering) → row_cmp r q ≡ o → row_cmp p r ≡ Less
    by Less e = absurd (true≢false (sym (ap is_lt e) ∙ h))
    by Equal e = subst (λ (s : Row). row_cmp p s ≡ Less) (sym (rows_exact r q e)) less
    by Greater e = rows_total.trans p q r less (greater_back r q e)

-- rows that aren't below q, and are below the first of the edits from q on, stand apart from each edit
apart_each : (run edits : List Row) (q : Row) → IsAscending edits → AllByRecursion (λ r. is_lt (row_cmp r q) ≡ false) run → AllByRecursion (λ r. is_reached (first_from edits q) r ≡ false) run → AllByRecursion (IsApart run) edits
apart_each run [] q up from off = tt
apart_each run (p ∷ edits) q up from off =
    elim (is_lt (row_cmp p q)) as (λ b. is_lt (row_cmp p q) ≡ b → AllByRecursion (λ r. is_reached (cond (not b) (Some p) (first_from edits q)) r ≡ false) run → IsApart run p × AllByRecursion (IsApart run) edits) [
      | true ↦ λ e h. (
        inr (each_weaker (λ r. is_lt (row_cmp r q) ≡ false) (λ r. row_cmp r p ≡ Greater) (λ r k. above_of r p q (less_is (row_cmp p q) e) k) run from),
        apart_each run edits q up.1 from h,
      )
      | false ↦ λ e h.
          let below = each_weaker (λ r. not (is_lt (row_cmp r p)) ≡ false) (λ r. row_cmp r p ≡ Less) (λ r k. less_is (row_cmp r p) (not_not (is_lt (row_cmp r p)) k)) run h in (
            inl below,
            each_weaker (λ s. row_cmp p s ≡ Less) (IsApart run) (λ s less. inl (each_weaker (λ r. row_cmp r p ≡ Less) (λ r. row_cmp r s ≡ Less) (λ r k. rows_total.trans r p s k less) run below)) edits up.0,
          )
    ] refl off

apart_head : (r g : Row) (run : List Row) → IsApart (r ∷ run) g → is_eq (row_cmp g r) ≡ false
apart_head r g run (inl h) = ap is_eq (less_back r g h.0)
apart_head r g run (inr h) = ap is_eq (greater_back r g h.0)

apart_tail : (r g : Row) (run : List Row) → IsApart (r ∷ run) g → IsApart run g
apart_tail r g run (inl h) = inl h.1
apart_tail r g run (inr h) = inr h.1

not_there : (r : Row) (gone : List Row) → AllByRecursion (λ g. is_eq (row_cmp g r) ≡ false) gone → has_row gone r ≡ false
not_there r [] h = refl
not_there r (g ∷ gone) h = rw h.0 (not_there r gone h.1)

none_gone : (run gone : List Row) → AllByRecursion (IsApart run) gone → AllByRecursion (λ r. has_row gone r ≡ false) run
none_gone [] gone h = tt
none_gone (r ∷ run) gone h = (
  not_there r gone (each_weaker (IsApart (r ∷ run)) (λ g. is_eq (row_cmp g r) ≡ false) (λ g k. apart_head r g run k) gone h),
  none_gone run gone (each_weaker (IsApart (r ∷ run)) (IsApart run) (λ g k. apart_tail r g run k) gone h),
)

-- ---- runs stay where rows that stand apart go or come

kept_all : (run gone : List Row) → AllByRecursion (λ r. has_row gone r ≡ false) run → kept run gone ≡ run
kept_all [] gone h = refl
kept_all (r ∷ run) gone h = rw h.0 (ap (λ (rs : List Row). r ∷ rs) (kept_all run gone h.1))

run_kept : (base gone run : List Row) → AllByRecursion (λ r. has_row gone r ≡ false) run → IsRun base run → IsRun (kept base gone) run
run_kept base gone run stay is = record {
  before = kept is.before gone;
  after = kept is.after gone;
  whole =
      ap (λ (rows : List Row). kept rows gone) is.whole
      ∙ filter-append (λ r. not (has_row gone r)) is.before (run ++ is.after)
      ∙ ap (λ (rows : List Row). kept is.before gone ++ rows) (filter-append (λ r. not (has_row gone r)) run is.after ∙ ap (λ (rows : List Row). rows ++ kept is.after gone) (kept_all run gone stay));
}

pub run_none : (rows : List Row) → IsRun rows []
run_none rows = record { before = []; after = rows; whole = refl }

run_with : (rows run : List Row) (p : Row) → IsAscending rows → IsApart run p → IsRun rows run → IsRun (with_row rows p) run
run_with rows [] p up apart is = run_none (with_row rows p)
run_with rows (r ∷ run) p up (inl below) is =
    let joined = subst IsAscending is.whole up in
    let lower = before_row is.before ((r ∷ run) ++ is.after) r r joined refl (λ e. absurd (true≢false (ap is_eq (sym (cmp_itself r) ∙ e)))) in
    let first = each_weaker (λ s. row_cmp s r ≡ Less) (λ s. row_cmp s p ≡ Less) (λ s k. rows_total.trans s r p k below.0) is.before lower in
    record {
      before = is.before;
      after = with_row is.after p;
      whole =
          ap (λ (all : List Row). with_row all p) is.whole
          ∙ with_row-after is.before ((r ∷ run) ++ is.after) p first
          ∙ ap (λ (all : List Row). is.before ++ all) (with_row-after (r ∷ run) is.after p below);
    }
run_with rows (r ∷ run) p up (inr above) is =
    let rest = (r ∷ run) ++ is.after in
    let joined = subst IsAscending is.whole up in
    let later = from_row rest r p (ascending-right is.before rest joined) refl above.0 in
    record {
      before = with_row is.before p;
      after = is.after;
      whole = ap (λ (all : List Row). with_row all p) is.whole ∙ with_row-before is.before rest p later;
    }

run_fold : (rows come run : List Row) → IsAscending rows → AllByRecursion (IsApart run) come → IsRun rows run → IsRun (fold with_row rows come) run
run_fold rows [] run up apart is = is
run_fold rows (p ∷ come) run up apart is = run_fold (with_row rows p) come run (ascending-with_row rows p up) apart.1 (run_with rows run p up apart.0 is)

-- ---- a run from where a search begins

-- none of its rows is below what was sought
from_sought : (base run : List Row) (q : Row) → IsAscending base → slice_get run 0 ≡ first_from base q → IsRun base run → AllByRecursion (λ r. is_lt (row_cmp r q) ≡ false) run
from_sought base [] q up first is = tt
from_sought base (r ∷ run) q up first is =
    let here : is_lt (row_cmp r q) ≡ false = not_true (is_lt (row_cmp r q)) (found_passes (λ s. not (is_lt (row_cmp s q))) base r (sym first)) in
    let rises = ascending-left (r ∷ run) is.after (ascending-right is.before ((r ∷ run) ++ is.after) (subst IsAscending is.whole up)) in
    (here, each_weaker (λ s. row_cmp r s ≡ Less) (λ s. is_lt (row_cmp s q) ≡ false) (λ s k. up_from r s q k here) run rises.0)

pub front_run : (base run front : List Row) → IsRun base run → IsFront run front → IsRun base front
front_run base run front is cut = record {
  before = is.before;
  after = cut.rest ++ is.after;
  whole = is.whole ∙ ap (λ (rows : List Row). is.before ++ rows) (ap (λ (rows : List Row). rows ++ is.after) cut.whole ∙ append_assoc front cut.rest is.after);
}

pub front_each : (P : Row → Type 0) (run front : List Row) → IsFront run front → AllByRecursion P run → AllByRecursion P front
front_each P run front cut all = each-left P front cut.rest (subst (AllByRecursion P) cut.whole all)

pub front_ascends : (run front : List Row) → IsFront run front → IsAscending run → IsAscending front
front_ascends run front cut up = ascending-left front cut.rest (subst IsAscending cut.whole up)

pub front_front : (a b c : List Row) → IsFront a b → IsFront b c → IsFront a c
front_front a b c one two = record {
  rest = two.rest ++ one.rest;
  whole = one.whole ∙ ap (λ (rows : List Row). rows ++ one.rest) two.whole ∙ append_assoc c two.rest one.rest;
}

pub run_ascends : (base run : List Row) → IsRun base run → IsAscending base → IsAscending run
run_ascends base run is up = ascending-left run is.after (ascending-right is.before (run ++ is.after) (subst IsAscending is.whole up))

-- the front of a run of the base, where it is below the edits from q on
pub run_under : (base gone come run front : List Row) (q : Row) → IsAscending base → IsAscending gone → IsAscending come → slice_get run 0 ≡ first_from base q → IsRun base run → IsFront run front
    → AllByRecursion (λ r. is_reached (first_from gone q) r ≡ false) front → AllByRecursion (λ r. is_reached (first_from come q) r ≡ false) front → IsRun (overlaid base gone come) front
run_under base gone come run front q up_base up_gone up_come first is cut off_gone off_come =
    let from = front_each (λ r. is_lt (row_cmp r q) ≡ false) run front cut (from_sought base run q up_base first is) in
    let stay = none_gone front gone (apart_each front gone q up_gone from off_gone) in
    run_fold (kept base gone) come front (ascending-filter (λ r. not (has_row gone r)) base up_base) (apart_each front come q up_come from off_come)
    (run_kept base gone front stay (front_run base run front is cut))

pub first_under : (base gone come run front : List Row) (q : Row) → IsAscending base → IsAscending gone → IsAscending come → slice_get run 0 ≡ first_from base q → IsRun base run → IsFront run front
    → AllByRecursion (λ r. is_reached (first_from gone q) r ≡ false) front → AllByRecursion (λ r. is_reached (first_from come q) r ≡ false) front → 0 < length front
    → slice_get front 0 ≡ first_from (overlaid base gone come) q
first_under base gone come run [] q up_base up_gone up_come first is cut off_gone off_come some = absurd (omega arith)
first_under base gone come run (r ∷ front) q up_base up_gone up_come first is cut off_gone off_come some =
    let from = front_each (λ s. is_lt (row_cmp s q) ≡ false) run (r ∷ front) cut (from_sought base run q up_base first is) in
    let stay = none_gone (r ∷ front) gone (apart_each (r ∷ front) gone q up_gone from off_gone) in
    let here : first_from base q ≡ Some r = sym first ∙ ap (λ (rows : List Row). slice_get rows 0) cut.whole in
    first-overlaid base gone come q (first_from come q) (Some r) up_come refl
    (sym (ap (λ o. lesser o (first_from come q)) (from_here base gone q r here stay.0) ∙ lesser_before (first_from come q) r off_come.0))

-- ---- one row alone

found_run : (p : Row → Bool) (rows : List Row) (r : Row) → find p rows ≡ Some r → IsRun rows (r ∷ [])
found_run p [] r h = absurd cc
found_run p (x ∷ rows) r h =
    elim (p x) as (λ b. cond b (Some x) (find p rows) ≡ Some r → IsRun (x ∷ rows) (r ∷ [])) [
      | true ↦ λ e. record { before = []; after = rows; whole = ap (λ (s : Row). s ∷ rows) (some_same x r e) }
      | false ↦ λ e. let is = found_run p rows r e in record { before = x ∷ is.before; after = is.after; whole = ap (λ (rs : List Row). x ∷ rs) is.whole }
    ] h

pub run_alone : (rows run : List Row) (q : Row) → length run ≤ 1 → slice_get run 0 ≡ first_from rows q → IsRun rows run
run_alone rows [] q few first = run_none rows
run_alone rows (r ∷ []) q few first = found_run (λ s. not (is_lt (row_cmp s q))) rows r (sym first)
run_alone rows (r ∷ (s ∷ run)) q few first = absurd (omega arith)

-- ---- where a run reaches a row

pub taken_below : (rows : List Row) (q : Row) (k : ℕ) → IsAscending rows → first_from rows q ≡ slice_get rows k → AllByRecursion (λ r. row_cmp r q ≡ Less) (take k rows)
taken_below [] q zero up found = tt
taken_below [] q (suc k) up found = tt
taken_below (x ∷ rows) q zero up found = tt
taken_below (x ∷ rows) q (suc k) up found =
    elim (is_lt (row_cmp x q)) as (λ b. is_lt (row_cmp x q) ≡ b → cond (not b) (Some x) (first_from rows q) ≡ slice_get rows k → (row_cmp x q ≡ Less) × AllByRecursion (λ r. row_cmp r q ≡ Less) (take k rows)) [
      | true ↦ λ e h. (less_is (row_cmp x q) e, taken_below rows q k up.1 h)
      | false ↦ λ e h. absurd (true≢false (ap is_eq (sym (cmp_itself x) ∙ got_each (λ s. row_cmp x s ≡ Less) rows k x up.0 (sym h))))
    ] refl found

-- an edit that was found is as wide as each row of a run
pub edit_wide : (width : ℕ) (run edits : List Row) (q : Row) (found : Option Row) → found ≡ first_from edits q → AllByRecursion (IsRow width) edits → AllByRecursion (IsRow width) run
    → (edit : Row) → found ≡ Some edit → AllByRecursion (λ row. length row ≡ length edit) run
edit_wide width run edits q found is each all edit here =
    let wide : IsRow width edit = found_each (IsRow width) (λ s. not (is_lt (row_cmp s q))) edits edit each (sym is ∙ here) in
    each_weaker (IsRow width) (λ row. length row ≡ length edit) (λ row one. one.is_wide ∙ sym wide.is_wide) run all

pub run_each : (P : Row → Type 0) (base run : List Row) → IsRun base run → AllByRecursion P base → AllByRecursion P run
run_each P base run is all = each-left P run is.after (each-right P is.before (run ++ is.after) (subst (AllByRecursion P) is.whole all))
