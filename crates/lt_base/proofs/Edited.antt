-- Marks laid on the rows of a relation, as the rows that they take out and those that they put in.
use Rattle.std.proofs.Common.{◌≡◌, ℕ, Bool, true, false, not, ◌&&◌, ◌||◌, List, [], ◌∷◌, map, refl, sym, ap, ◌∙◌, subst}
use Rattle.std.specs.Prelude.{◌==◌, if◌then◌else◌}
use mathlib.Core.Bool.{true≢false}
use Rattle.std.specs.List.{AllByRecursion}
use Rattle.std.specs.Ordering.{is_eq, nat_cmp}
use Rattle.std.specs.Cmp.{tied_itself}
use Rattle.std.specs.declared.cmp.Ordering.{Ordering}
use Rattle.std.specs.declared.cmp.Ordering.TheVariants.{Less, Equal, Greater}
use Rattle.std.proofs.lemmas.Bool.{eqb-true}
use Rattle.std.proofs.lemmas.Cmp.{nat_cmp_total}
use Rattle.lt_face.specs.Lists.{IsIn}
use Rattle.lt_face.specs.Rows.{row_cmp, by_order, IsAscending, IsRow, IsRowSet, has_row, with_row, without_row}
use Rattle.lt_face.specs.State.{Row, permuted}
use Rattle.lt_face.proofs.RowLemmas.{rows_exact, less_back, ascending-with_row, ascending-filter}
use Rattle.lt_face.proofs.Membership.{IsIn-map, IsIn-map_from}
use Rattle.lt_model.specs.declared.mark.Mark.{Mark}
use Rattle.lt_model.specs.Marks.{Marks, AreMarks, mark_cmp, write}
use Rattle.lt_model.proofs.Composition.{rows_same}
use Rattle.lt_delta.specs.Laying.{row_laid, rows_laid, same_sign, marked}
use Rattle.lt_over.specs.Overlaid.{overlaid}
use Rattle.lt_over.proofs.Overlays.{has-with_row, has-without_row, has-overlaid, ascending-overlaid}
use Rattle.lt_delta.specs.Columns.{IsPermOf, IsPermuted}
use Rattle.lt_base.specs.Indexed.{permuted_mark}
use Rattle.lt_base.proofs.Apart.{has_from, has_to}
use Rattle.lt_base.proofs.Kept.{permuted_once}
use Rattle.lt_base.proofs.OwnOrder.{row_at}

-- ---- which rows these are

or_true : (b : Bool) → (b || true) ≡ true
or_true true = refl
or_true false = refl

or_off : (e g : Bool) → (e || g) ≡ false → g ≡ false
or_off true g h = absurd (true≢false h)
or_off false g h = h

and_left : (a b : Bool) → (a && b) ≡ true → a ≡ true
and_left true b h = refl
and_left false b h = absurd (true≢false (sym h))

equal_is : (o : Ordering) → is_eq o ≡ true → o ≡ Equal
equal_is Less h = absurd (true≢false (sym h))
equal_is Equal h = refl
equal_is Greater h = absurd (true≢false (sym h))

off_relation : (relation : ℕ) (plus : Bool) (m : Mark) (marks : Marks) → (m.relation == relation) ≡ false → marked relation plus (m ∷ marks) ≡ marked relation plus marks
off_relation relation plus m marks off = ap (λ b. if b && same_sign m.plus plus then m.row ∷ marked relation plus marks else marked relation plus marks) off

on_relation : (relation : ℕ) (plus : Bool) (m : Mark) (marks : Marks) → (m.relation == relation) ≡ true → marked relation plus (m ∷ marks) ≡ (if same_sign m.plus plus then m.row ∷ marked relation plus marks else marked relation plus marks)
on_relation relation plus m marks on = ap (λ b. if b && same_sign m.plus plus then m.row ∷ marked relation plus marks else marked relation plus marks) on

came_first : (e c h g : Bool) → (e ≡ true → g ≡ false) → (c || ((e || h) && not g)) ≡ ((e || c) || (h && not g))
came_first true true h g apart = refl
came_first true false h g apart = ap not (apart refl)
came_first false c h g apart = refl

went_first : (e c h g : Bool) → (c || ((not e && h) && not g)) ≡ (c || (h && not (e || g)))
went_first true c true g = refl
went_first true c false g = refl
went_first false c h g = refl

-- a row is there after marks where one puts it in, or where it was there and none takes it out
pub has-laid : (relation : ℕ) (rows : List Row) (marks : Marks) (q : Row) → (has_row (marked relation true marks) q ≡ true → has_row (marked relation false marks) q ≡ false)
    → has_row (rows_laid relation rows marks) q ≡ (has_row (marked relation true marks) q || (has_row rows q && not (has_row (marked relation false marks) q)))
has-laid relation rows [] q apart = sym (right (has_row rows q))
  where
    right : (b : Bool) → (b && true) ≡ b
    right true = refl
    right false = refl
has-laid relation rows (m ∷ marks) q apart = by (λ rs h. has-laid relation rs marks q h) (m.relation == relation) refl m.plus refl
  where
    by : ((rs : List Row) → (has_row (marked relation true marks) q ≡ true → has_row (marked relation false marks) q ≡ false)
        → has_row (rows_laid relation rs marks) q ≡ (has_row (marked relation true marks) q || (has_row rs q && not (has_row (marked relation false marks) q))))
        → (b : Bool) → (m.relation == relation) ≡ b → (p : Bool) → m.plus ≡ p
        → has_row (rows_laid relation (row_laid relation rows m) marks) q ≡ (has_row (marked relation true (m ∷ marks)) q || (has_row rows q && not (has_row (marked relation false (m ∷ marks)) q)))
    by more false off p sign =
        let in_same : marked relation true (m ∷ marks) ≡ marked relation true marks = off_relation relation true m marks off in
        let out_same : marked relation false (m ∷ marks) ≡ marked relation false marks = off_relation relation false m marks off in
        ap (λ b. has_row (rows_laid relation (if b then write m rows else rows) marks) q) off
        ∙ more rows (λ h. sym (ap (λ (l : List Row). has_row l q) out_same) ∙ apart (ap (λ (l : List Row). has_row l q) in_same ∙ h))
        ∙ sym (ap (λ (l : List Row). has_row l q || (has_row rows q && not (has_row (marked relation false (m ∷ marks)) q))) in_same ∙ ap (λ (l : List Row). has_row (marked relation true marks) q || (has_row rows q && not (has_row l q))) out_same)
    by more true on true sign =
        let in_more : marked relation true (m ∷ marks) ≡ m.row ∷ marked relation true marks = on_relation relation true m marks on ∙ ap (λ b. if same_sign b true then m.row ∷ marked relation true marks else marked relation true marks) sign in
        let out_same : marked relation false (m ∷ marks) ≡ marked relation false marks = on_relation relation false m marks on ∙ ap (λ b. if same_sign b false then m.row ∷ marked relation false marks else marked relation false marks) sign in
        let kept : (has_row (m.row ∷ marked relation true marks) q ≡ true) → has_row (marked relation false marks) q ≡ false = λ h. sym (ap (λ (l : List Row). has_row l q) out_same) ∙ apart (ap (λ (l : List Row). has_row l q) in_more ∙ h) in
        ap (λ b. has_row (rows_laid relation (if b then write m rows else rows) marks) q) on
        ∙ ap (λ b. has_row (rows_laid relation (if b then with_row rows m.row else without_row rows m.row) marks) q) sign
        ∙ more (with_row rows m.row) (λ h. kept (ap (λ b. is_eq (row_cmp m.row q) || b) h ∙ or_true (is_eq (row_cmp m.row q))))
        ∙ ap (λ b. has_row (marked relation true marks) q || (b && not (has_row (marked relation false marks) q))) (has-with_row rows m.row q)
        ∙ came_first (is_eq (row_cmp m.row q)) (has_row (marked relation true marks) q) (has_row rows q) (has_row (marked relation false marks) q) (λ h. kept (ap (λ b. b || has_row (marked relation true marks) q) h))
        ∙ sym (ap (λ (l : List Row). has_row l q || (has_row rows q && not (has_row (marked relation false (m ∷ marks)) q))) in_more ∙ ap (λ (l : List Row). has_row (m.row ∷ marked relation true marks) q || (has_row rows q && not (has_row l q))) out_same)
    by more true on false sign =
        let in_same : marked relation true (m ∷ marks) ≡ marked relation true marks = on_relation relation true m marks on ∙ ap (λ b. if same_sign b true then m.row ∷ marked relation true marks else marked relation true marks) sign in
        let out_more : marked relation false (m ∷ marks) ≡ m.row ∷ marked relation false marks = on_relation relation false m marks on ∙ ap (λ b. if same_sign b false then m.row ∷ marked relation false marks else marked relation false marks) sign in
        ap (λ b. has_row (rows_laid relation (if b then write m rows else rows) marks) q) on
        ∙ ap (λ b. has_row (rows_laid relation (if b then with_row rows m.row else without_row rows m.row) marks) q) sign
        ∙ more (without_row rows m.row) (λ h. or_off (is_eq (row_cmp m.row q)) (has_row (marked relation false marks) q) (sym (ap (λ (l : List Row). has_row l q) out_more) ∙ apart (ap (λ (l : List Row). has_row l q) in_same ∙ h)))
        ∙ ap (λ b. has_row (marked relation true marks) q || (b && not (has_row (marked relation false marks) q))) (has-without_row rows m.row q)
        ∙ went_first (is_eq (row_cmp m.row q)) (has_row (marked relation true marks) q) (has_row rows q) (has_row (marked relation false marks) q)
        ∙ sym (ap (λ (l : List Row). has_row l q || (has_row rows q && not (has_row (marked relation false (m ∷ marks)) q))) in_same ∙ ap (λ (l : List Row). has_row (marked relation true marks) q || (has_row rows q && not (has_row l q))) out_more)

-- ---- marks that ascend

below_other : (relation : ℕ) (plus : Bool) (m : Mark) (marks : Marks) → AllByRecursion (λ n. mark_cmp m n ≡ Less) marks → m.relation ≡ relation → has_row (marked relation plus marks) m.row ≡ false
below_other relation plus m [] above same = refl
below_other relation plus m (n ∷ marks) above same = by (below_other relation plus m marks above.1 same) (n.relation == relation && same_sign n.plus plus) refl
  where
    by : has_row (marked relation plus marks) m.row ≡ false → (b : Bool) → (n.relation == relation && same_sign n.plus plus) ≡ b → has_row (if b then n.row ∷ marked relation plus marks else marked relation plus marks) m.row ≡ false
    by more false e = more
    by more true e =
        let here : n.relation ≡ relation = eqb-true n.relation relation (and_left (n.relation == relation) (same_sign n.plus plus) e) in
        let tie : nat_cmp m.relation n.relation ≡ Equal = ap (λ k. nat_cmp k n.relation) (same ∙ sym here) ∙ tied_itself nat_cmp_total n.relation in
        let less : row_cmp m.row n.row ≡ Less = sym (ap (λ o. by_order o Less (row_cmp m.row n.row) Greater) tie) ∙ above.0 in
        ap (λ b. b || has_row (marked relation plus marks) m.row) (ap is_eq (less_back m.row n.row less)) ∙ more

-- no row is both put in and taken out
pub apart_signs : (relation : ℕ) (marks : Marks) (q : Row) → AreMarks marks → has_row (marked relation true marks) q ≡ true → has_row (marked relation false marks) q ≡ false
apart_signs relation [] q up there = refl
apart_signs relation (m ∷ marks) q up there = by (apart_signs relation marks q up.1) (m.relation == relation) refl m.plus refl (is_eq (row_cmp m.row q)) refl
  where
    by : (has_row (marked relation true marks) q ≡ true → has_row (marked relation false marks) q ≡ false) → (b : Bool) → (m.relation == relation) ≡ b → (p : Bool) → m.plus ≡ p → (e : Bool) → is_eq (row_cmp m.row q) ≡ e → has_row (marked relation false (m ∷ marks)) q ≡ false
    by more false off p sign e is =
        ap (λ (l : List Row). has_row l q) (off_relation relation false m marks off)
        ∙ more (sym (ap (λ (l : List Row). has_row l q) (off_relation relation true m marks off)) ∙ there)
    by more true on true sign true is =
        let same : m.row ≡ q = rows_exact m.row q (equal_is (row_cmp m.row q) is) in
        ap (λ (l : List Row). has_row l q) (on_relation relation false m marks on ∙ ap (λ b. if same_sign b false then m.row ∷ marked relation false marks else marked relation false marks) sign)
        ∙ subst (λ (r : Row). has_row (marked relation false marks) r ≡ false) same (below_other relation false m marks up.0 (eqb-true m.relation relation on))
    by more true on true sign false is =
        let in_more : marked relation true (m ∷ marks) ≡ m.row ∷ marked relation true marks = on_relation relation true m marks on ∙ ap (λ b. if same_sign b true then m.row ∷ marked relation true marks else marked relation true marks) sign in
        ap (λ (l : List Row). has_row l q) (on_relation relation false m marks on ∙ ap (λ b. if same_sign b false then m.row ∷ marked relation false marks else marked relation false marks) sign)
        ∙ more (sym (ap (λ b. b || has_row (marked relation true marks) q) is) ∙ sym (ap (λ (l : List Row). has_row l q) in_more) ∙ there)
    by more true on false sign true is =
        let same : m.row ≡ q = rows_exact m.row q (equal_is (row_cmp m.row q) is) in
        let in_same : marked relation true (m ∷ marks) ≡ marked relation true marks = on_relation relation true m marks on ∙ ap (λ b. if same_sign b true then m.row ∷ marked relation true marks else marked relation true marks) sign in
        absurd (true≢false (sym (sym (ap (λ (l : List Row). has_row l q) in_same) ∙ there) ∙ subst (λ (r : Row). has_row (marked relation true marks) r ≡ false) same (below_other relation true m marks up.0 (eqb-true m.relation relation on))))
    by more true on false sign false is =
        let in_same : marked relation true (m ∷ marks) ≡ marked relation true marks = on_relation relation true m marks on ∙ ap (λ b. if same_sign b true then m.row ∷ marked relation true marks else marked relation true marks) sign in
        let out_more : marked relation false (m ∷ marks) ≡ m.row ∷ marked relation false marks = on_relation relation false m marks on ∙ ap (λ b. if same_sign b false then m.row ∷ marked relation false marks else marked relation false marks) sign in
        ap (λ (l : List Row). has_row l q) out_more ∙ ap (λ b. b || has_row (marked relation false marks) q) is
        ∙ more (sym (ap (λ (l : List Row). has_row l q) in_same) ∙ there)

above_marked : (relation : ℕ) (plus : Bool) (m : Mark) (ns : Marks) → m.relation ≡ relation → AllByRecursion (λ n. mark_cmp m n ≡ Less) ns → AllByRecursion (λ s. row_cmp m.row s ≡ Less) (marked relation plus ns)
above_marked relation plus m [] same all = tt
above_marked relation plus m (n ∷ ns) same all = go (above_marked relation plus m ns same all.1) (n.relation == relation && same_sign n.plus plus) refl
  where
    go : AllByRecursion (λ s. row_cmp m.row s ≡ Less) (marked relation plus ns) → (b : Bool) → (n.relation == relation && same_sign n.plus plus) ≡ b → AllByRecursion (λ s. row_cmp m.row s ≡ Less) (if b then n.row ∷ marked relation plus ns else marked relation plus ns)
    go more false e = more
    go more true e =
        let here : n.relation ≡ relation = eqb-true n.relation relation (and_left (n.relation == relation) (same_sign n.plus plus) e) in
        let tie : nat_cmp m.relation n.relation ≡ Equal = ap (λ k. nat_cmp k n.relation) (same ∙ sym here) ∙ tied_itself nat_cmp_total n.relation in
        (sym (ap (λ o. by_order o Less (row_cmp m.row n.row) Greater) tie) ∙ all.0, more)

-- the rows ascend as the marks do
pub rises_marked : (relation : ℕ) (plus : Bool) (marks : Marks) → AreMarks marks → IsAscending (marked relation plus marks)
rises_marked relation plus [] up = tt
rises_marked relation plus (m ∷ marks) up = by (rises_marked relation plus marks up.1) (m.relation == relation && same_sign m.plus plus) refl
  where
    by : IsAscending (marked relation plus marks) → (b : Bool) → (m.relation == relation && same_sign m.plus plus) ≡ b → IsAscending (if b then m.row ∷ marked relation plus marks else marked relation plus marks)
    by more false e = more
    by more true e = (above_marked relation plus m marks (eqb-true m.relation relation (and_left (m.relation == relation) (same_sign m.plus plus) e)) up.0, more)

pub each_marked : (P : Row → Type 0) (relation : ℕ) (plus : Bool) (marks : Marks) → AllByRecursion (λ (m : Mark). m.relation ≡ relation → P m.row) marks → AllByRecursion P (marked relation plus marks)
each_marked P relation plus [] all = tt
each_marked P relation plus (m ∷ marks) all = by (each_marked P relation plus marks all.1) (m.relation == relation && same_sign m.plus plus) refl
  where
    by : AllByRecursion P (marked relation plus marks) → (b : Bool) → (m.relation == relation && same_sign m.plus plus) ≡ b → AllByRecursion P (if b then m.row ∷ marked relation plus marks else marked relation plus marks)
    by more false e = more
    by more true e = (all.0 (eqb-true m.relation relation (and_left (m.relation == relation) (same_sign m.plus plus) e)), more)

pub IsRowSet-marked : (width relation : ℕ) (plus : Bool) (marks : Marks) → AreMarks marks → AllByRecursion (λ (m : Mark). m.relation ≡ relation → IsRow width m.row) marks → IsRowSet width (marked relation plus marks)
IsRowSet-marked width relation plus marks up fits = record { rises = rises_marked relation plus marks up; each = each_marked (IsRow width) relation plus marks fits }

pub ascending-laid : (relation : ℕ) (rows : List Row) (marks : Marks) → IsAscending rows → IsAscending (rows_laid relation rows marks)
ascending-laid relation rows [] up = up
ascending-laid relation rows (m ∷ marks) up = ascending-laid relation (row_laid relation rows m) marks (by (m.relation == relation) m.plus)
  where
    by : (b p : Bool) → IsAscending (if b then (if p then with_row rows m.row else without_row rows m.row) else rows)
    by false p = up
    by true true = ascending-with_row rows m.row up
    by true false = ascending-filter (λ r. not (is_eq (row_cmp r m.row))) rows up

-- so marks on rows are the rows that go and those that come, whatever lists these stand in
pub laid_by_lists : (relation : ℕ) (rows gone come : List Row) (marks : Marks) → IsAscending rows
    → ((q : Row) → has_row (marked relation true marks) q ≡ true → has_row (marked relation false marks) q ≡ false)
    → ((q : Row) → has_row gone q ≡ has_row (marked relation false marks) q)
    → ((q : Row) → has_row come q ≡ has_row (marked relation true marks) q)
    → overlaid rows gone come ≡ rows_laid relation rows marks
laid_by_lists relation rows gone come marks up apart out in_ =
    rows_same (overlaid rows gone come) (rows_laid relation rows marks) (ascending-overlaid rows gone come up) (ascending-laid relation rows marks up)
    (λ q. has-overlaid rows gone come q
    ∙ ap (λ b. b || (has_row rows q && not (has_row gone q))) (in_ q)
    ∙ ap (λ b. has_row (marked relation true marks) q || (has_row rows q && not b)) (out q)
    ∙ sym (has-laid relation rows marks q (apart q)))

-- ---- in another order of the columns

permuted_marked : (columns : List ℕ) (relation : ℕ) (plus : Bool) (marks : Marks) → marked relation plus (map (permuted_mark columns) marks) ≡ map (permuted columns) (marked relation plus marks)
permuted_marked columns relation plus [] = refl
permuted_marked columns relation plus (m ∷ marks) = by (permuted_marked columns relation plus marks) (m.relation == relation && same_sign m.plus plus)
  where
    by : marked relation plus (map (permuted_mark columns) marks) ≡ map (permuted columns) (marked relation plus marks) → (b : Bool) → (if b then permuted columns m.row ∷ marked relation plus (map (permuted_mark columns) marks) else marked relation plus (map (permuted_mark columns) marks))
        ≡ map (permuted columns) (if b then m.row ∷ marked relation plus marks else marked relation plus marks)
    by more true = ap (λ (l : List Row). permuted columns m.row ∷ l) more
    by more false = more

alike : (a b : Bool) → (a ≡ true → b ≡ true) → (b ≡ true → a ≡ true) → a ≡ b
alike true b forth back = sym (forth refl)
alike false true forth back = back refl
alike false false forth back = refl

-- an index of rows has the rows as it orders them
has_permuted : (width : ℕ) (columns : List ℕ) (rows index : List Row) (q : Row) → IsPermuted width columns rows index → has_row index q ≡ has_row (map (permuted columns) rows) q
has_permuted width columns rows index q is =
    alike (has_row index q) (has_row (map (permuted columns) rows) q)
    (λ h. let old = is.from q (has_from index q h) in has_to (map (permuted columns) rows) q (subst (λ (r : Row). IsIn r (map (permuted columns) rows)) old.2 (IsIn-map (permuted columns) old.0 rows old.1)))
    (λ h. let old = IsIn-map_from (permuted columns) q rows (has_from (map (permuted columns) rows) q h) in has_to index q (subst (λ (r : Row). IsIn r index) old.2 (is.there old.0 old.1)))

pub laid_by_permuted : (width relation : ℕ) (columns : List ℕ) (rows gone come : List Row) (marks : Marks) → IsAscending rows → AreMarks marks → IsPermOf width columns
    → AllByRecursion (λ (m : Mark). m.relation ≡ relation → IsRow width m.row) marks
    → IsPermuted width columns (marked relation false marks) gone → IsPermuted width columns (marked relation true marks) come
    → overlaid rows gone come ≡ rows_laid relation rows (map (permuted_mark columns) marks)
laid_by_permuted width relation columns rows gone come marks up are perm fits out in_ =
    laid_by_lists relation rows gone come (map (permuted_mark columns) marks) up apart
    (λ q. has_permuted width columns (marked relation false marks) gone q out ∙ ap (λ (l : List Row). has_row l q) (sym (permuted_marked columns relation false marks)))
    (λ q. has_permuted width columns (marked relation true marks) come q in_ ∙ ap (λ (l : List Row). has_row l q) (sym (permuted_marked columns relation true marks)))
  where
    no_tie : (b : Bool) → b ≡ true → b ≡ false → ⊥
    no_tie b on off = true≢false (sym on ∙ off)

    apart : (q : Row) → has_row (marked relation true (map (permuted_mark columns) marks)) q ≡ true → has_row (marked relation false (map (permuted_mark columns) marks)) q ≡ false
    apart q h = by (has_row (marked relation false (map (permuted_mark columns) marks)) q) refl
      where
        by : (b : Bool) → has_row (marked relation false (map (permuted_mark columns) marks)) q ≡ b → has_row (marked relation false (map (permuted_mark columns) marks)) q ≡ false
        by false e = e
        by true e =
            let new = IsIn-map_from (permuted columns) q (marked relation true marks) (has_from (map (permuted columns) (marked relation true marks)) q (sym (ap (λ (l : List Row). has_row l q) (permuted_marked columns relation true marks)) ∙ h)) in
            let old = IsIn-map_from (permuted columns) q (marked relation false marks) (has_from (map (permuted columns) (marked relation false marks)) q (sym (ap (λ (l : List Row). has_row l q) (permuted_marked columns relation false marks)) ∙ e)) in
            let wide_new = row_at (IsRow width) (marked relation true marks) new.0 (each_marked (IsRow width) relation true marks fits) new.1 in
            let wide_old = row_at (IsRow width) (marked relation false marks) old.0 (each_marked (IsRow width) relation false marks fits) old.1 in
            let same : new.0 ≡ old.0 = permuted_once width columns new.0 old.0 perm wide_new.is_wide wide_old.is_wide (new.2 ∙ sym old.2) in
            absurd (no_tie (has_row (marked relation false marks) new.0)
            (has_to (marked relation false marks) new.0 (subst (λ (r : Row). IsIn r (marked relation false marks)) (sym same) old.1))
            (apart_signs relation marks new.0 are (has_to (marked relation true marks) new.0 new.1)))
