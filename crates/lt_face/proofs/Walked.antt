-- The rows of a set, one after another.
use Rattle.std.proofs.Common.{◌≡◌, ℕ, zero, suc, ◌+◌, ◌<◌, ◌≤◌, Bool, true, false, ◌||◌, cond, List, [], ◌∷◌, length, drop, slice_get, Option, Some, None, IfSome, Bor, refl, sym, ap, ◌∙◌, subst, arith}
use mathlib.Core.Bool.{true≢false}
use Rattle.std.specs.Option.{option_copied}
use Rattle.std.specs.List.{AllByRecursion}
use Rattle.std.specs.Ordering.{is_lt, is_eq}
use Rattle.std.specs.declared.cmp.Ordering.{Ordering}
use Rattle.std.specs.declared.cmp.Ordering.TheVariants.{Less, Equal, Greater}
use Rattle.lt_face.specs.Rows.{row_cmp, IsAscending, has_row, first_from, first_above, behind}
use Rattle.lt_face.specs.State.{Row}
use Rattle.lt_face.proofs.RowLemmas.{rows_exact, cmp_itself, less_back}

-- the rows of a set from the empty row on are all
pub from_start : (rows : List Row) → first_from rows [] ≡ slice_get rows 0
from_start [] = refl
from_start ([] ∷ rows) = refl
from_start ((x ∷ r) ∷ rows) = refl

or_true : (b : Bool) → (b || true) ≡ true
or_true true = refl
or_true false = refl

equal_is : (o : Ordering) → is_eq o ≡ true → o ≡ Equal
equal_is Less h = absurd cc
equal_is Equal h = refl
equal_is Greater h = absurd cc

-- a row that a set has is one of its rows
pub each_has : (P : Row → Type 0) (rows : List Row) (row : Row) → AllByRecursion P rows → has_row rows row ≡ true → P row
each_has P [] row all h = absurd (true≢false (sym h))
each_has P (r ∷ rs) row all h =
    elim (is_eq (row_cmp r row)) as (λ b. is_eq (row_cmp r row) ≡ b → (b || has_row rs row) ≡ true → P row) [
      | true ↦ λ e k. subst P (rows_exact r row (equal_is (row_cmp r row) e)) all.0
      | false ↦ λ e k. each_has P rs row all.1 k
    ] refl h

pub got_has : (rows : List Row) (k : ℕ) (r : Row) → slice_get rows k ≡ Some r → has_row rows r ≡ true
got_has [] k r h = absurd cc
got_has (x ∷ rows) zero r h = let e : x ≡ r = cc in subst (λ (s : Row). (is_eq (row_cmp x s) || has_row rows s) ≡ true) e (ap (λ b. b || has_row rows x) (ap is_eq (cmp_itself x)))
got_has (x ∷ rows) (suc k) r h = ap (λ b. is_eq (row_cmp x r) || b) (got_has rows k r h) ∙ or_true (is_eq (row_cmp x r))

all_pass : (r : Row) (rows : List Row) → AllByRecursion (λ s. row_cmp r s ≡ Less) rows → first_above rows r ≡ slice_get rows 0
all_pass r [] all = refl
all_pass r (x ∷ rows) all = rw all.0 refl

pub got_each : (P : Row → Type 0) (rows : List Row) (k : ℕ) (r : Row) → AllByRecursion P rows → slice_get rows k ≡ Some r → P r
got_each P [] k r all h = absurd cc
got_each P (x ∷ rows) zero r all h = let e : x ≡ r = cc in subst P e all.0
got_each P (x ∷ rows) (suc k) r all h = got_each P rows k r all.1 h

-- what is above a row of a set is the one behind it
pub next_place : (rows : List Row) (k : ℕ) (r : Row) → IsAscending rows → slice_get rows k ≡ Some r → first_above rows r ≡ slice_get rows (k + 1)
next_place [] k r up h = absurd cc
next_place (x ∷ rows) zero r up h =
    let e : x ≡ r = cc in
    let off : is_lt (row_cmp r x) ≡ false = ap is_lt (ap (row_cmp r) e ∙ cmp_itself r) in
    let all : AllByRecursion (λ s. row_cmp r s ≡ Less) rows = subst (λ (t : Row). AllByRecursion (λ s. row_cmp t s ≡ Less) rows) e up.0 in
    ap (λ b. cond b (Some x) (first_above rows r)) off ∙ all_pass r rows all
next_place (x ∷ rows) (suc k) r up h =
    let off : is_lt (row_cmp r x) ≡ false = ap is_lt (less_back x r (got_each (λ s. row_cmp x s ≡ Less) rows k r up.0 h)) in
    let e : suc (k + 1) ≡ suc k + 1 = omega arith in
    ap (λ b. cond b (Some x) (first_above rows r)) off ∙ next_place rows k r up.1 h ∙ ap (λ n. slice_get (x ∷ rows) n) e

-- ---- lists from a place on

pub got_within : (rows : List Row) (k : ℕ) (r : Row) → slice_get rows k ≡ Some r → k < length rows
got_within [] k r h = absurd cc
got_within (x ∷ rows) zero r h = omega arith
got_within (x ∷ rows) (suc k) r h = let lt = got_within rows k r h in omega (arith, lt)

pub none_past : (rows : List Row) (k : ℕ) → slice_get rows k ≡ None → length rows ≤ k
none_past [] k h = omega arith
none_past (x ∷ rows) zero h = absurd cc
none_past (x ∷ rows) (suc k) h = let le = none_past rows k h in omega (arith, le)

pub first_dropped : (k : ℕ) (rows : List Row) → slice_get (drop k rows) 0 ≡ slice_get rows k
first_dropped zero rows = refl
first_dropped (suc k) [] = refl
first_dropped (suc k) (x ∷ rows) = first_dropped k rows

pub dropped_more : (k : ℕ) (rows : List Row) → drop 1 (drop k rows) ≡ drop (k + 1) rows
dropped_more zero rows = refl
dropped_more (suc k) [] = let e : suc k + 1 ≡ suc (k + 1) = omega arith in rw e refl
dropped_more (suc k) (x ∷ rows) = let e : suc k + 1 ≡ suc (k + 1) = omega arith in rw e (dropped_more k rows)

-- ---- a walk, of which so many rows are left

-- what a walk is at is a row of the set
pub is_there : (rows : List Row) (k : ℕ) (o : Option (Bor Row)) → option_copied o ≡ slice_get rows k → IfSome o (λ row. has_row rows row.now ≡ true)
is_there rows k None h = tt
is_there rows k (Some row) h = got_has rows k row.now (sym h)

pub steps : (rows : List Row) (k : ℕ) (o next : Option Row) → IsAscending rows → k < length rows → o ≡ slice_get rows k → next ≡ behind rows o → next ≡ slice_get rows (k + 1)
steps rows k None next up lt h is = let le = none_past rows k (sym h) in absurd (omega (arith, le, lt))
steps rows k (Some row) next up lt h is = is ∙ next_place rows k row up (sym h)
