-- The marks on one relation, by where they begin.
use Rattle.std.proofs.Common.{◌≡◌, ◌≢◌, ℕ, zero, suc, ◌<◌, ◌≤◌, true, false, [], ◌∷◌, length, Some, refl, sym, ap, ◌∙◌, inl, inr, arith}
use mathlib.Core.Bool.{true≢false}
use Rattle.std.specs.List.{AllByRecursion, slice_get}
use Rattle.std.specs.Cmp.{ranks}
use Rattle.std.specs.Ordering.{is_lt, nat_cmp, MatchOrdering}
use Rattle.std.specs.declared.cmp.Ordering.{Ordering}
use Rattle.std.specs.declared.cmp.Ordering.TheVariants.{Less, Equal, Greater}
use Rattle.lt_face.specs.Lists.{AnyByRecursion}
use Rattle.lt_face.specs.Rows.{row_cmp, by_order}
use Rattle.lt_face.specs.State.{Row}
use Rattle.lt_face.proofs.RowLemmas.{each_weaker}
use Rattle.lt_model.specs.declared.mark.Mark.{Mark}
use Rattle.lt_model.specs.Marks.{Marks, AreMarks, mark_cmp}
use Rattle.lt_delta.specs.Finding.{is_before}

-- ---- no row is below the one without cells

least_row : (row : Row) → is_lt (row_cmp row []) ≡ false
least_row [] = refl
least_row (x ∷ row) = refl

below : (x y : ℕ) (row : Row) (o : Ordering) → MatchOrdering o (x < y) (x ≡ y) (y < x) → is_lt (by_order o Less (row_cmp row []) Greater) ≡ true → x < y
below x y row Less is h = is
below x y row Equal is h = absurd (true≢false (sym h ∙ least_row row))
below x y row Greater is h = absurd (true≢false (sym h))

not_below : (x y : ℕ) (row : Row) (o : Ordering) → MatchOrdering o (x < y) (x ≡ y) (y < x) → is_lt (by_order o Less (row_cmp row []) Greater) ≡ false → y ≤ x
not_below x y row Less is h = absurd (true≢false h)
not_below x y row Equal is h = omega (arith, is)
not_below x y row Greater is h = omega (arith, is)

pub before_start : (relation : ℕ) (m : Mark) → is_before relation [] m ≡ true → m.relation < relation
before_start relation m h = below m.relation relation m.row (nat_cmp m.relation relation) (ranks m.relation relation) h

pub from_start : (relation : ℕ) (m : Mark) → is_before relation [] m ≡ false → relation ≤ m.relation
from_start relation m h = not_below m.relation relation m.row (nat_cmp m.relation relation) (ranks m.relation relation) h

-- ---- none is on the relation

rises : (x y : ℕ) (o p : Ordering) → MatchOrdering o (x < y) (x ≡ y) (y < x) → by_order o Less p Greater ≡ Less → x ≤ y
rises x y Less p is h = omega (arith, is)
rises x y Equal p is h = omega (arith, is)
rises x y Greater p is h = absurd cc

-- marks behind one on a later relation are on later ones, too
pub later_on : (relation : ℕ) (m : Mark) (marks : Marks) → relation < m.relation → AllByRecursion (λ (n : Mark). mark_cmp m n ≡ Less) marks → AllByRecursion (λ (n : Mark). n.relation ≢ relation) marks
later_on relation m marks lt above =
    each_weaker (λ (n : Mark). mark_cmp m n ≡ Less) (λ (n : Mark). n.relation ≢ relation)
    (λ n h e. let le = rises m.relation n.relation (nat_cmp m.relation n.relation) (row_cmp m.row n.row) (ranks m.relation n.relation) h in absurd (omega (arith, lt, le, e))) marks above

-- all before a place are on earlier relations, and so is none on this one
pub none_on : (relation : ℕ) (marks : Marks) (i : ℕ) → length marks ≤ i → ((p : ℕ) (m : Mark) → slice_get marks p ≡ Some m → p < i → m.relation < relation) → AllByRecursion (λ (n : Mark). n.relation ≢ relation) marks
none_on relation [] i le before = tt
none_on relation (x ∷ marks) zero le before = absurd (omega arith)
none_on relation (x ∷ marks) (suc i) le before = (
  λ e. let lt = before 0 x refl (omega arith) in absurd (omega (arith, lt, e)),
  none_on relation marks i (omega arith) (λ p m at lt. before (suc p) m at (omega arith)),
)

-- the mark at the place is on a later one
pub none_at : (relation : ℕ) (marks : Marks) (i : ℕ) (m : Mark) → AreMarks marks → ((p : ℕ) (n : Mark) → slice_get marks p ≡ Some n → p < i → n.relation < relation) → slice_get marks i ≡ Some m → relation ≤ m.relation → m.relation ≢ relation → AllByRecursion (λ (n : Mark). n.relation ≢ relation) marks
none_at relation [] i m up before at le ne = absurd cc
none_at relation (x ∷ marks) zero m up before at le ne =
    let same : x ≡ m = cc in
    let is : x.relation ≡ m.relation = ap (λ (n : Mark). n.relation) same in
    let other : x.relation ≢ relation = λ e. ne (sym is ∙ e) in
    (other, later_on relation x marks (omega (arith, is, le, other)) up.0)
none_at relation (x ∷ marks) (suc i) m up before at le ne = (
  λ e. let lt = before 0 x refl (omega arith) in absurd (omega (arith, lt, e)),
  none_at relation marks i m up.1 (λ p n there lt. before (suc p) n there (omega arith)) at le ne,
)

-- the mark at a place is on it
pub one_at : (relation : ℕ) (marks : Marks) (i : ℕ) (m : Mark) → slice_get marks i ≡ Some m → m.relation ≡ relation → AnyByRecursion (λ (n : Mark). n.relation ≡ relation) marks
one_at relation [] i m at is = absurd cc
one_at relation (x ∷ marks) zero m at is = let same : x ≡ m = cc in inl (ap (λ (n : Mark). n.relation) same ∙ is)
one_at relation (x ∷ marks) (suc i) m at is = inr (one_at relation marks i m at is)
