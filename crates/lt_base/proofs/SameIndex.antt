-- Two indexes of the same rows are one.
use Rattle.std.proofs.Common.{◌≡◌, ℕ, Bool, true, false, List, map, refl, sym, subst}
use Rattle.std.specs.List.{AllByRecursion}
use Rattle.lt_face.specs.Lists.{IsIn}
use Rattle.lt_face.specs.Rows.{IsRow, IsRowSet, IsAscending, has_row}
use Rattle.lt_face.specs.State.{Row}
use Rattle.lt_model.specs.declared.mark.Mark.{Mark}
use Rattle.lt_model.specs.Marks.{Marks}
use Rattle.lt_model.proofs.Composition.{rows_same}
use Rattle.lt_delta.specs.Columns.{numbers, IsPermuted}
use Rattle.lt_delta.specs.Laying.{rows_laid}
use Rattle.lt_base.specs.Indexed.{permuted_mark}
use Rattle.lt_base.proofs.Apart.{has_from, has_to}
use Rattle.lt_base.proofs.Edited.{ascending-laid}
use Rattle.lt_base.proofs.Kept.{all_laid, wide_laid}
use Rattle.lt_base.proofs.OwnOrder.{own_permuted}

same_bools : (a b : Bool) → (a ≡ true → b ≡ true) → (b ≡ true → a ≡ true) → a ≡ b
same_bools true b to back = sym (to refl)
same_bools false true to back = back refl
same_bools false false to back = refl

pub same_index : (width : ℕ) (columns : List ℕ) (rows a b : List Row) → IsPermuted width columns rows a → IsPermuted width columns rows b → IsAscending a → IsAscending b → a ≡ b
same_index width columns rows a b is_a is_b up_a up_b = rows_same a b up_a up_b (λ r. same_bools (has_row a r) (has_row b r) (moves a b is_a is_b r) (moves b a is_b is_a r))
  where
    moves : (a b : List Row) → IsPermuted width columns rows a → IsPermuted width columns rows b → (r : Row) → has_row a r ≡ true → has_row b r ≡ true
    moves a b is_a is_b r there = let old = is_a.from r (has_from a r there) in has_to b r (subst (λ (x : Row). IsIn x b) old.2 (is_b.there old.0 old.1))

-- the rows of an index with edits laid on it are those with the marks laid on it
pub exact : (width relation : ℕ) (columns : List ℕ) (marks : Marks) (table rows set : List Row) → IsRowSet width table → IsPermuted width columns table rows → AllByRecursion (λ (m : Mark). m.relation ≡ relation → IsRow width m.row) marks
    → IsAscending rows → IsAscending set → IsPermuted width columns (rows_laid relation table marks) set → set ≡ rows_laid relation rows (map (permuted_mark columns) marks)
exact width relation columns marks table rows set table_set is fit up set_up does =
    same_index width columns (rows_laid relation table marks) set (rows_laid relation rows (map (permuted_mark columns) marks)) does (all_laid width columns relation table rows marks is table_set.each fit) set_up
    (ascending-laid relation rows (map (permuted_mark columns) marks) up)

-- a relation's own rows with edits laid on them are those with the marks laid on them
pub own_exact : (width relation : ℕ) (columns : List ℕ) (marks : Marks) (rows set : List Row) → columns ≡ numbers 0 width → IsRowSet width rows → AllByRecursion (λ (m : Mark). m.relation ≡ relation → IsRow width m.row) marks
    → IsAscending set → IsPermuted width columns (rows_laid relation rows marks) set → set ≡ rows_laid relation rows marks
own_exact width relation columns marks rows set is row_set fit up does =
    same_index width columns (rows_laid relation rows marks) set (rows_laid relation rows marks) does
    (own_permuted width columns (rows_laid relation rows marks) is (wide_laid width relation rows marks row_set.each fit)) up (ascending-laid relation rows marks row_set.rises)
