-- Rows with edits laid over them, and then other edits.
use Rattle.std.proofs.Common.{◌≡◌, Bool, true, false, not, ◌&&◌, ◌||◌, ◌≤◌, List, length, Result, Ok, Err, OnErr, refl, sym, ap, ◌∙◌, subst}
use Rattle.std.specs.Prelude.{fold}
use Rattle.std.specs.Ordering.{is_eq}
use Rattle.lt_face.specs.Rows.{row_cmp, IsAscending, has_row, with_row, without_row}
use Rattle.lt_face.specs.State.{Row}
use Rattle.lt_face.proofs.RowLemmas.{without_row-absent}
use Rattle.lt_model.proofs.Laws.{same_is}
use Rattle.lt_model.proofs.Composition.{rows_same}
use Rattle.lt_flat.specs.Flat.{kept}
use Rattle.lt_over.specs.Overlaid.{overlaid, stays}
use Rattle.lt_over.proofs.Counts.{le_all}
use Rattle.lt_over.proofs.Overlays.{has-with_row, has-without_row, has-fold, has-kept, has-overlaid, ascending-overlaid, ascending-without}

pub on_err : {T E P : Type 0} (result : Result T E) → P → OnErr result P
on_err (Ok value) holds = tt
on_err (Err error) holds = holds

off_both : (e p b m : Bool) → ((not e && p) || (b && not (e || m))) ≡ (not e && (p || (b && not m)))
off_both true p true m = refl
off_both true p false m = refl
off_both false p b m = refl

-- a row that is taken out, be it one that was put in or not
pub taken_rows : (base gone come out left : List Row) (row : Row) → IsAscending base → out ≡ with_row gone row → left ≡ without_row come row → overlaid base out left ≡ without_row (overlaid base gone come) row
taken_rows base gone come out left row up is_out is_left =
    ap (λ (m : List Row). overlaid base m left) is_out ∙ ap (λ (l : List Row). overlaid base (with_row gone row) l) is_left
    ∙ rows_same (overlaid base (with_row gone row) (without_row come row)) (without_row (overlaid base gone come) row)
    (ascending-overlaid base (with_row gone row) (without_row come row) up)
    (ascending-without (overlaid base gone come) row (ascending-overlaid base gone come up))
    (λ q. has-overlaid base (with_row gone row) (without_row come row) q
    ∙ ap (λ b. b || stays base (with_row gone row) q) (has-without_row come row q)
    ∙ ap (λ b. (not (is_eq (row_cmp row q)) && has_row come q) || (has_row base q && not b)) (has-with_row gone row q)
    ∙ off_both (is_eq (row_cmp row q)) (has_row come q) (has_row base q) (has_row gone q)
    ∙ ap (λ b. not (is_eq (row_cmp row q)) && b) (sym (has-overlaid base gone come q))
    ∙ sym (has-without_row (overlaid base gone come) row q))

hidden : (e p b m : Bool) → (e ≡ true → p ≡ true) → (p || (b && not (e || m))) ≡ (p || (b && not m))
hidden true p b m put = ap (λ c. c || (b && false)) (put refl) ∙ sym (ap (λ c. c || (b && not m)) (put refl))
hidden false p b m put = refl

-- a row that is put in stays where it is hidden in the base
pub hidden_rows : (base gone come out : List Row) (row : Row) → IsAscending base → out ≡ with_row gone row → has_row come row ≡ true → overlaid base out come ≡ overlaid base gone come
hidden_rows base gone come out row up is put =
    ap (λ (m : List Row). overlaid base m come) is
    ∙ rows_same (overlaid base (with_row gone row) come) (overlaid base gone come) (ascending-overlaid base (with_row gone row) come up) (ascending-overlaid base gone come up)
    (λ q. has-overlaid base (with_row gone row) come q
    ∙ ap (λ b. has_row come q || (has_row base q && not b)) (has-with_row gone row q)
    ∙ hidden (is_eq (row_cmp row q)) (has_row come q) (has_row base q) (has_row gone q) (λ e. subst (λ (s : Row). has_row come s ≡ true) (same_is row q e) put)
    ∙ sym (has-overlaid base gone come q))

over_again : (c g p b m : Bool) → ((c || (p && not g)) || (b && not (g || m))) ≡ (c || ((p || (b && not m)) && not g))
over_again true g p b m = refl
over_again false true true true m = refl
over_again false true true false m = refl
over_again false true false true true = refl
over_again false true false true false = refl
over_again false true false false m = refl
over_again false false true b m = refl
over_again false false false true true = refl
over_again false false false true false = refl
over_again false false false false m = refl

-- edits over edits are one layer of edits
pub laid_over : (base gone come more_gone more_come out left put : List Row) → IsAscending base
    → out ≡ fold with_row gone more_gone → left ≡ kept come more_gone → put ≡ fold with_row left more_come
    → overlaid base out put ≡ overlaid (overlaid base gone come) more_gone more_come
laid_over base gone come more_gone more_come out left put up is_out is_left is_put =
    ap (λ (m : List Row). overlaid base m put) is_out
    ∙ ap (λ (l : List Row). overlaid base (fold with_row gone more_gone) l) (is_put ∙ ap (λ (l : List Row). fold with_row l more_come) is_left)
    ∙ rows_same (overlaid base (fold with_row gone more_gone) (fold with_row (kept come more_gone) more_come)) (overlaid (overlaid base gone come) more_gone more_come)
    (ascending-overlaid base (fold with_row gone more_gone) (fold with_row (kept come more_gone) more_come) up)
    (ascending-overlaid (overlaid base gone come) more_gone more_come (ascending-overlaid base gone come up))
    (λ q. has-overlaid base (fold with_row gone more_gone) (fold with_row (kept come more_gone) more_come) q
    ∙ ap (λ b. b || stays base (fold with_row gone more_gone) q) (has-fold (kept come more_gone) more_come q ∙ ap (λ b. has_row more_come q || b) (has-kept come more_gone q))
    ∙ ap (λ b. (has_row more_come q || (has_row come q && not (has_row more_gone q))) || (has_row base q && not b)) (has-fold gone more_gone q)
    ∙ over_again (has_row more_come q) (has_row more_gone q) (has_row come q) (has_row base q) (has_row gone q)
    ∙ ap (λ b. has_row more_come q || (b && not (has_row more_gone q))) (sym (has-overlaid base gone come q))
    ∙ sym (has-overlaid (overlaid base gone come) more_gone more_come q))

-- a row that wasn't put in needn't be taken back
pub not_put : (come : List Row) (row : Row) → has_row come row ≡ false → come ≡ without_row come row
not_put come row none = sym (without_row-absent come row none)

pub fewer_put : (come left : List Row) (row : Row) → left ≡ without_row come row → length left ≤ length come
fewer_put come left row is = rw is (le_all (λ r. not (is_eq (row_cmp r row))) come)
