-- Which rows a set has that others are laid over.
use Rattle.std.proofs.Common.{◌≡◌, ℕ, ◌+◌, ◌<◌, ◌≤◌, Bool, true, false, cond, not, ◌&&◌, ◌||◌, List, [], ◌∷◌, length, Some, None, refl, sym, ap, ◌∙◌, subst, lit<, arith}
use Rattle.std.specs.Prelude.{unwrap_or, fold, filter}
use Rattle.std.specs.List.{AllByRecursion}
use Rattle.std.specs.Ordering.{is_eq}
use Rattle.std.specs.declared.cmp.Ordering.TheVariants.{Less, Equal, Greater}
use Rattle.lt_face.specs.Rows.{row_cmp, by_order, IsRow, IsRowSet, IsAscending, has_row, with_row, without_row}
use Rattle.lt_face.specs.State.{Row}
use Rattle.lt_face.proofs.RowLemmas.{ascending-with_row, ascending-filter, each_with_row, each_filter}
use Rattle.lt_model.proofs.Laws.{laid_has, same_is}
use Rattle.lt_model.proofs.Composition.{rows_same}
use Rattle.lt_flat.specs.Flat.{kept}
use Rattle.lt_over.specs.Overlaid.{overlaid, stays}

-- ---- tests

told_in : (a b : Bool) → unwrap_or (cond a (Some true) None) b ≡ (a || b)
told_in true b = refl
told_in false b = refl

told_out : (a b : Bool) → unwrap_or (cond a (Some false) None) b ≡ (not a && b)
told_out true b = refl
told_out false b = refl

turned : (a b c : Bool) → (a || (b || c)) ≡ ((b || a) || c)
turned true true c = refl
turned true false c = refl
turned false true c = refl
turned false false c = refl

grouped : (a b c : Bool) → ((a || b) || c) ≡ (a || (b || c))
grouped true b c = refl
grouped false b c = refl

-- a row is kept where it is: k says of the first, n of the one that is asked for
one_kept : (e k b n : Bool) → (e ≡ true → k ≡ n) → ((k && e) || (b && n)) ≡ ((e || b) && n)
one_kept true true b n same = same refl
one_kept true false true n same = refl
one_kept true false false n same = same refl
one_kept false true b n same = refl
one_kept false false b n same = refl

-- ---- rows put in, and taken out

pub has-with_row : (rows : List Row) (q r : Row) → has_row (with_row rows q) r ≡ (is_eq (row_cmp q r) || has_row rows r)
has-with_row rows q r =
    laid_has (record { width = 0; rows = rows } ∷ []) (record { relation = 0; row = q; plus = true } ∷ []) 0 r (lit< tt)
    ∙ told_in (is_eq (row_cmp q r)) (has_row rows r)

pub has-without_row : (rows : List Row) (q r : Row) → has_row (without_row rows q) r ≡ (not (is_eq (row_cmp q r)) && has_row rows r)
has-without_row rows q r =
    laid_has (record { width = 0; rows = rows } ∷ []) (record { relation = 0; row = q; plus = false } ∷ []) 0 r (lit< tt)
    ∙ told_out (is_eq (row_cmp q r)) (has_row rows r)

pub has-fold : (rows come : List Row) (q : Row) → has_row (fold with_row rows come) q ≡ (has_row come q || has_row rows q)
has-fold rows [] q = refl
has-fold rows (p ∷ come) q =
    has-fold (with_row rows p) come q
    ∙ ap (λ b. has_row come q || b) (has-with_row rows p q)
    ∙ turned (has_row come q) (is_eq (row_cmp p q)) (has_row rows q)

has-cond : (k : Bool) (r : Row) (rows : List Row) (q : Row) → has_row (cond k (r ∷ rows) rows) q ≡ ((k && is_eq (row_cmp r q)) || has_row rows q)
has-cond true r rows q = refl
has-cond false r rows q = refl

pub has-filter : (p : Row → Bool) (rows : List Row) (q : Row) → has_row (filter p rows) q ≡ (has_row rows q && p q)
has-filter p [] q = refl
has-filter p (r ∷ rows) q =
    has-cond (p r) r (filter p rows) q
    ∙ ap (λ b. (p r && is_eq (row_cmp r q)) || b) (has-filter p rows q)
    ∙ one_kept (is_eq (row_cmp r q)) (p r) (has_row rows q) (p q) (λ e. ap p (same_is r q e))

pub has-kept : (base gone : List Row) (q : Row) → has_row (kept base gone) q ≡ stays base gone q
has-kept base gone q = has-filter (λ r. not (has_row gone r)) base q

-- a row is there where it is put in, or stays
pub has-overlaid : (base gone come : List Row) (q : Row) → has_row (overlaid base gone come) q ≡ (has_row come q || stays base gone q)
has-overlaid base gone come q = has-fold (kept base gone) come q ∙ ap (λ b. has_row come q || b) (has-kept base gone q)

pub ascending-fold : (rows come : List Row) → IsAscending rows → IsAscending (fold with_row rows come)
ascending-fold rows [] up = up
ascending-fold rows (p ∷ come) up = ascending-fold (with_row rows p) come (ascending-with_row rows p up)

pub ascending-overlaid : (base gone come : List Row) → IsAscending base → IsAscending (overlaid base gone come)
ascending-overlaid base gone come up = ascending-fold (kept base gone) come (ascending-filter (λ r. not (has_row gone r)) base up)

each-fold : (P : Row → Type 0) (rows come : List Row) → AllByRecursion P rows → AllByRecursion P come → AllByRecursion P (fold with_row rows come)
each-fold P rows [] all more = all
each-fold P rows (p ∷ come) all more = each-fold P (with_row rows p) come (each_with_row P rows p all more.0) more.1

pub IsRowSet-overlaid : (width : ℕ) (base gone come : List Row) → IsRowSet width base → AllByRecursion (IsRow width) come → IsRowSet width (overlaid base gone come)
IsRowSet-overlaid width base gone come set more = record {
  rises = ascending-overlaid base gone come set.rises;
  each = each-fold (IsRow width) (kept base gone) come (each_filter (IsRow width) (λ r. not (has_row gone r)) base set.each) more;
}

-- nothing is laid over it
pub bare : (base : List Row) → overlaid base [] [] ≡ base
bare [] = refl
bare (r ∷ base) = ap (λ (rs : List Row). r ∷ rs) (bare base)

-- ---- edits

pub put_in : (base gone come : List Row) (row : Row) → IsAscending base → overlaid base gone (with_row come row) ≡ with_row (overlaid base gone come) row
put_in base gone come row up =
    rows_same (overlaid base gone (with_row come row)) (with_row (overlaid base gone come) row) (ascending-overlaid base gone (with_row come row) up)
    (ascending-with_row (overlaid base gone come) row (ascending-overlaid base gone come up))
    (λ q. has-overlaid base gone (with_row come row) q
    ∙ ap (λ b. b || stays base gone q) (has-with_row come row q)
    ∙ grouped (is_eq (row_cmp row q)) (has_row come q) (stays base gone q)
    ∙ ap (λ b. is_eq (row_cmp row q) || b) (sym (has-overlaid base gone come q))
    ∙ sym (has-with_row (overlaid base gone come) row q))

pub ascending-without : (rows : List Row) (row : Row) → IsAscending rows → IsAscending (without_row rows row)
ascending-without rows row up = ascending-filter (λ r. not (is_eq (row_cmp r row))) rows up

-- ---- what a look-up answers

pub told_put : (base gone come : List Row) (row : Row) (p : Bool) → p ≡ has_row come row → p ≡ true → p ≡ has_row (overlaid base gone come) row
told_put base gone come row p is on = on ∙ sym (has-overlaid base gone come row ∙ ap (λ b. b || stays base gone row) (sym is ∙ on))

pub told_base : (base gone come : List Row) (row : Row) (p b m : Bool) → p ≡ has_row come row → p ≡ false → b ≡ has_row base row → b ≡ true → m ≡ has_row gone row → not m ≡ has_row (overlaid base gone come) row
told_base base gone come row p b m is_p off is_b on is_m =
    ap not is_m
    ∙ sym (has-overlaid base gone come row ∙ ap (λ c. c || stays base gone row) (sym is_p ∙ off) ∙ ap (λ c. c && not (has_row gone row)) (sym is_b ∙ on))

pub told_off : (base gone come : List Row) (row : Row) (p b : Bool) → p ≡ has_row come row → p ≡ false → b ≡ has_row base row → b ≡ false → b ≡ has_row (overlaid base gone come) row
told_off base gone come row p b is_p off is_b none =
    none
    ∙ sym (has-overlaid base gone come row ∙ ap (λ c. c || stays base gone row) (sym is_p ∙ off) ∙ ap (λ c. c && not (has_row gone row)) (sym is_b ∙ none))

-- ---- nothing laid over a set

pub bare_rows : (base gone come : List Row) → gone ≡ [] → come ≡ [] → overlaid base gone come ≡ base
bare_rows base gone come no_gone no_come = ap (λ (m : List Row). overlaid base m come) no_gone ∙ ap (λ (p : List Row). overlaid base [] p) no_come ∙ bare base

-- ---- edits that change nothing

there_too : (e b : Bool) → (e ≡ true → b ≡ true) → (e || b) ≡ b
there_too true b h = sym (h refl)
there_too false b h = refl

pub with_there : (rows : List Row) (row : Row) → IsAscending rows → has_row rows row ≡ true → with_row rows row ≡ rows
with_there rows row up there =
    rows_same (with_row rows row) rows (ascending-with_row rows row up) up
    (λ q. has-with_row rows row q ∙ there_too (is_eq (row_cmp row q)) (has_row rows q) (λ e. subst (λ (s : Row). has_row rows s ≡ true) (same_is row q e) there))

-- one row more at most
pub length-with_row : (rows : List Row) (row : Row) → length (with_row rows row) ≤ length rows + 1
length-with_row [] row = omega arith
length-with_row (r ∷ rs) row =
    elim (row_cmp r row) as (λ o. length (by_order o (r ∷ with_row rs row) (r ∷ rs) (row ∷ (r ∷ rs))) ≤ length (r ∷ rs) + 1) [
      | Less ↦ omega (arith, length-with_row rs row)
      | Equal ↦ omega arith
      | Greater ↦ omega arith
    ]

pub fits_one : (come new : List Row) (row : Row) (n m : ℕ) → n + m + 1 < 18446744073709551616 → m ≡ length come → new ≡ with_row come row → n + length new < 18446744073709551616
fits_one come new row n m room is more =
    let le : length new ≤ length come + 1 = rw more (length-with_row come row) in
    omega (arith, room, is, le)

pub in_rows : (base gone come new : List Row) (row : Row) → IsAscending base → new ≡ with_row come row → overlaid base gone new ≡ with_row (overlaid base gone come) row
in_rows base gone come new row up is = ap (λ (p : List Row). overlaid base gone p) is ∙ put_in base gone come row up
