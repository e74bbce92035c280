-- An index keeps the rows of its relation, where marks are laid on both.
use Rattle.std.specs.Prelude.{◌≡◌, ℕ, suc, ◌<◌, Bool, true, false, ◌==◌, if◌then◌else◌, List, [], ◌∷◌, map, length, slice_index}
use Rattle.std.specs.List.{AllByRecursion}
use Rattle.std.proofs.Common.{refl, sym, ap, ◌∙◌, subst, inl, inr, cond, arith}
use Rattle.lt_face.specs.Lists.{IsIn}
use Rattle.lt_face.specs.Rows.{IsRow, with_row, without_row}
use Rattle.lt_face.specs.State.{Row, permuted}
use Rattle.lt_face.proofs.RowLemmas.{each_with_row, each_filter}
use Rattle.lt_model.specs.declared.mark.Mark.{Mark}
use Rattle.lt_model.specs.Marks.{Marks, write}
use Rattle.lt_delta.specs.Laying.{row_laid, rows_laid}
use Rattle.lt_base.specs.declared.index.Index.{Index}
use Rattle.lt_delta.specs.Columns.{IsPermOf, IsPermuted}
use Rattle.lt_base.specs.Indexed.{IsIndexed, permuted_mark, index_laid}
use Rattle.lt_base.proofs.Elements.{with_new, with_old, with_cases, without_cases, without_other}
use Rattle.std.proofs.lemmas.Bool.{eqb-true}
use Rattle.lt_base.proofs.OwnOrder.{row_at}

-- ---- rows that are the same in the order of all columns are the same

same_cells : (xs ys : Row) → length xs ≡ length ys → ((c : ℕ) → c < length xs → slice_index xs c ≡ slice_index ys c) → xs ≡ ys
same_cells [] [] long same = refl
same_cells [] (y ∷ ys) long same = absurd (omega arith)
same_cells (x ∷ xs) [] long same = absurd (omega arith)
same_cells (x ∷ xs) (y ∷ ys) long same =
    let head : x ≡ y = same 0 (omega arith) in
    ap (λ (z : ℕ). z ∷ xs) head ∙ ap (λ (zs : Row). y ∷ zs) (same_cells xs ys (omega arith) (λ c lt. same (suc c) (omega arith)))

at_column : (columns : List ℕ) (p q : Row) (c : ℕ) → permuted columns p ≡ permuted columns q → IsIn c columns → slice_index p c ≡ slice_index q c
at_column [] p q c same h = absurd h
at_column (d ∷ columns) p q c same h =
    let heads : slice_index p d ≡ slice_index q d = cc in
    let tails : permuted columns p ≡ permuted columns q = cc in
    elim h [ inl e ↦ subst (λ n. slice_index p n ≡ slice_index q n) e heads | inr k ↦ at_column columns p q c tails k ]

pub permuted_once : (width : ℕ) (columns : List ℕ) (p q : Row) → IsPermOf width columns → length p ≡ width → length q ≡ width → permuted columns p ≡ permuted columns q → p ≡ q
permuted_once width columns p q perm wide_p wide_q same =
    same_cells p q (wide_p ∙ sym wide_q) (λ c lt. at_column columns p q c same (perm.each c (omega arith)))

-- ---- one mark

Wide : ℕ → List Row → Type 0
Wide width rows = AllByRecursion (IsRow width) rows

module _ (width : ℕ) (columns : List ℕ) (rows index : List Row) (is : IsPermuted width columns rows index) where
  come : (q : Row) → IsPermuted width columns (with_row rows q) (with_row index (permuted columns q))
  come q = record {
    perm = is.perm;
    there = λ row h. elim (with_cases rows q row h) [
      | inl e ↦ subst (λ r. IsIn (permuted columns r) (with_row index (permuted columns q))) e (with_new index (permuted columns q))
      | inr k ↦ with_old index (permuted columns q) (permuted columns row) (is.there row k)
    ];
    from = λ r h. elim (with_cases index (permuted columns q) r h) [
      | inl e ↦ (q, with_new rows q, e)
      | inr k ↦ let old = is.from r k in (old.0, with_old rows q old.0 old.1, old.2)
    ];
  }

  gone : (q : Row) → AllByRecursion (IsRow width) rows → length q ≡ width → IsPermuted width columns (without_row rows q) (without_row index (permuted columns q))
  gone q wide wide_q = record {
    perm = is.perm;
    there = λ row h.
        let k = without_cases rows q row h in
        without_other index (permuted columns q) (permuted columns row)
        (λ e. k.0 (permuted_once width columns q row is.perm wide_q (row_at (IsRow width) rows row wide k.1).is_wide e)) (is.there row k.1);
    from = λ r h.
        let k = without_cases index (permuted columns q) r h in
        let old = is.from r k.1 in
        (old.0, without_other rows q old.0 (λ e. k.0 (ap (permuted columns) e ∙ old.2)) old.1, old.2);
  }

  pub written : (m : Mark) → AllByRecursion (IsRow width) rows → IsRow width m.row → IsPermuted width columns (write m rows) (write (permuted_mark columns m) index)
  written m wide fits = go m.plus
    where
      go : (plus : Bool) → IsPermuted width columns (cond plus (with_row rows m.row) (without_row rows m.row)) (cond plus (with_row index (permuted columns m.row)) (without_row index (permuted columns m.row)))
      go true = come m.row
      go false = gone m.row wide fits.is_wide

  one_laid : (relation : ℕ) (m : Mark) → AllByRecursion (IsRow width) rows → (m.relation ≡ relation → IsRow width m.row) → IsPermuted width columns (row_laid relation rows m) (row_laid relation index (permuted_mark columns m))
  one_laid relation m wide fits = go (m.relation == relation) refl
    where
      go : (b : Bool) → (m.relation == relation) ≡ b → IsPermuted width columns (if b then write m rows else rows) (if b then write (permuted_mark columns m) index else index)
      go true e = written m wide (fits (eqb-true m.relation relation e))
      go false e = is

still_wide : (width relation : ℕ) (rows : List Row) (m : Mark) → AllByRecursion (IsRow width) rows → (m.relation ≡ relation → IsRow width m.row) → AllByRecursion (IsRow width) (row_laid relation rows m)
still_wide width relation rows m wide fits = go (m.relation == relation) refl
  where
    put : IsRow width m.row → (plus : Bool) → AllByRecursion (IsRow width) (cond plus (with_row rows m.row) (without_row rows m.row))
    put one true = each_with_row (IsRow width) rows m.row wide one
    put one false = each_filter (IsRow width) _ rows wide

    go : (b : Bool) → (m.relation == relation) ≡ b → AllByRecursion (IsRow width) (if b then write m rows else rows)
    go true e = put (fits (eqb-true m.relation relation e)) m.plus
    go false e = wide

-- ---- all marks

pub all_laid : (width : ℕ) (columns : List ℕ) (relation : ℕ) (rows index : List Row) (marks : Marks) → IsPermuted width columns rows index → AllByRecursion (IsRow width) rows → AllByRecursion (λ (m : Mark). m.relation ≡ relation → IsRow width m.row) marks
    → IsPermuted width columns (rows_laid relation rows marks) (rows_laid relation index (map (permuted_mark columns) marks))
all_laid width columns relation rows index [] is wide fits = is
all_laid width columns relation rows index (m ∷ marks) is wide fits =
    all_laid width columns relation (row_laid relation rows m) (row_laid relation index (permuted_mark columns m)) marks
    (one_laid width columns rows index is relation m wide fits.0)
    (still_wide width relation rows m wide fits.0)
    fits.1

-- rows stay as wide
pub wide_laid : (width relation : ℕ) (rows : List Row) (marks : Marks) → AllByRecursion (IsRow width) rows → AllByRecursion (λ (m : Mark). m.relation ≡ relation → IsRow width m.row) marks → AllByRecursion (IsRow width) (rows_laid relation rows marks)
wide_laid width relation rows [] wide fits = wide
wide_laid width relation rows (m ∷ marks) wide fits = wide_laid width relation (row_laid relation rows m) marks (still_wide width relation rows m wide fits.0) fits.1

pub indexes_laid : (width relation : ℕ) (rows : List Row) (marks : Marks) (others : List Index) → AllByRecursion (IsIndexed width rows) others → AllByRecursion (IsRow width) rows → AllByRecursion (λ (m : Mark). m.relation ≡ relation → IsRow width m.row) marks
    → AllByRecursion (IsIndexed width (rows_laid relation rows marks)) (map (index_laid relation marks) others)
indexes_laid width relation rows marks [] all wide fits = tt
indexes_laid width relation rows marks (index ∷ others) all wide fits =
    (record { wide = all.0.wide; same = all_laid width index.columns relation rows index.rows.rows marks all.0.same wide fits }, indexes_laid width relation rows marks others all.1 wide fits)

pub same_columns : (relation : ℕ) (marks : Marks) (others : List Index) → map (λ (i : Index). i.columns) (map (index_laid relation marks) others) ≡ map (λ (i : Index). i.columns) others
same_columns relation marks [] = refl
same_columns relation marks (index ∷ others) = ap (λ (l : List (List ℕ)). index.columns ∷ l) (same_columns relation marks others)
