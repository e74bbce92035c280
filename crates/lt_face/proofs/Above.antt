-- The row above a row, among rows of one width.
use Rattle.std.proofs.Common.{◌≡◌, ℕ, ◌+◌, ◌<◌, ◌≤◌, ◌^◌, Bool, false, cond, not, List, [], ◌∷◌, ◌++◌, length, Option, Some, None, refl, sym, ap, ◌∙◌, subst, arith, length-append}
use Rattle.std.specs.Prelude.{find}
use Rattle.std.specs.List.{AllByRecursion}
use Rattle.std.specs.Ordering.{is_lt, nat_cmp, ordering_then, MatchOrdering}
use Rattle.std.specs.declared.cmp.Ordering.{Ordering}
use Rattle.std.specs.declared.cmp.Ordering.TheVariants.{Less, Equal, Greater}
use Rattle.std.specs.Cmp.{tied_itself, nat_cmp_is, ranks}
use Rattle.std.proofs.lemmas.Cmp.{nat_cmp_total}
use Rattle.lt_face.specs.Rows.{row_cmp, IsCell, IsRow, IsRowSet, first_from, first_above}
use Rattle.lt_face.specs.State.{Row}
use Rattle.lt_face.proofs.RowLemmas.{rows_total, rows_exact, greater_back, each_weaker}

-- two searches that agree on each row find the same
pub find_agree : (p q : Row → Bool) (rows : List Row) → AllByRecursion (λ s. p s ≡ q s) rows → find p rows ≡ find q rows
find_agree p q [] all = refl
find_agree p q (x ∷ rows) all = rw all.0 (ap (λ (o : Option Row). cond (q x) (Some x) o) (find_agree p q rows all.1))

one_below : (x : ℕ) → nat_cmp x (x + 1) ≡ Less
one_below x = sym (nat_cmp_is x (x + 1) Less (omega arith))

-- the row is below the one above it
below_above : (init : List ℕ) (x : ℕ) → row_cmp (init ++ x ∷ []) (init ++ (x + 1) ∷ []) ≡ Less
below_above [] x = rw (one_below x) refl
below_above (a ∷ init) x = rw (tied_itself nat_cmp_total a) (below_above init x)

first_less : (o : Ordering) → ordering_then o Equal ≡ Less → o ≡ Less
first_less Less h = refl
first_less Equal h = absurd cc
first_less Greater h = absurd cc

is_below : (x y : ℕ) → nat_cmp x y ≡ Less → x < y
is_below x y e = subst (λ o. MatchOrdering o (x < y) (x ≡ y) (y < x)) e (ranks x y)

not_below : (a b : ℕ) → b ≤ a → (o : Ordering) → nat_cmp a b ≡ o → is_lt (ordering_then o Equal) ≡ false
not_below a b le Less e = let lt = is_below a b e in absurd (omega arith)
not_below a b le Equal e = refl
not_below a b le Greater e = refl

-- what is above a row isn't below the row above it
not_between : (init : List ℕ) (x : ℕ) (s : Row) → length s ≡ length init + 1 → row_cmp (init ++ x ∷ []) s ≡ Less → is_lt (row_cmp s (init ++ (x + 1) ∷ [])) ≡ false
not_between [] x [] long less = absurd (omega arith)
not_between [] x (y ∷ []) long less =
    let lt = is_below x y (first_less (nat_cmp x y) less) in
    not_below y (x + 1) (omega arith) (nat_cmp y (x + 1)) refl
not_between [] x (y ∷ (z ∷ s)) long less = absurd (omega arith)
not_between (a ∷ init) x [] long less = absurd (omega arith)
not_between (a ∷ init) x (b ∷ s) long less = heads a b (init ++ x ∷ []) s (init ++ (x + 1) ∷ []) (nat_cmp a b) refl less (λ h. not_between init x s (omega arith) h)
  where
    heads : (a b : ℕ) (r s q : Row) (o : Ordering) → nat_cmp a b ≡ o → ordering_then (nat_cmp a b) (row_cmp r s) ≡ Less → (row_cmp r s ≡ Less → is_lt (row_cmp s q) ≡ false) → is_lt (ordering_then (nat_cmp b a) (row_cmp s q)) ≡ false
    heads a b r s q Less e h more = rw (nat_cmp_total.antisymm b a, e) refl
    heads a b r s q Equal e h more = rw (nat_cmp_total.antisymm b a, e) (more (rw e at h))
    heads a b r s q Greater e h more = let f : Greater ≡ Less = rw e at h in absurd cc

-- the rows that are above r are those from the row above it on
pub from_above : (width : ℕ) (rows : List Row) (r init : Row) (last : ℕ) → IsRowSet width rows → IsRow width r → r ≡ init ++ last ∷ [] → first_from rows (init ++ (last + 1) ∷ []) ≡ first_above rows r
from_above width rows r init last set one is =
    find_agree (λ s. not (is_lt (row_cmp s (init ++ (last + 1) ∷ [])))) (λ s. is_lt (row_cmp r s)) rows
    (each_weaker (IsRow width) (λ s. not (is_lt (row_cmp s (init ++ (last + 1) ∷ []))) ≡ is_lt (row_cmp r s)) (λ s other. by s (other.is_wide ∙ sym one.is_wide ∙ ap length is ∙ length-append init (last ∷ [])) (row_cmp r s) refl) rows set.each)
  where
    lower : row_cmp r (init ++ (last + 1) ∷ []) ≡ Less
    lower = rw is (below_above init last)

    by : (s : Row) → length s ≡ length init + 1 → (o : Ordering) → row_cmp r s ≡ o → not (is_lt (row_cmp s (init ++ (last + 1) ∷ []))) ≡ is_lt (row_cmp r s)
    by s long Less e = ap not (not_between init last s long (subst (λ (t : Row). row_cmp t s ≡ Less) is e)) ∙ ap is_lt (sym e)
    by s long Equal e = ap (λ o. not (is_lt o)) (ap (λ (t : Row). row_cmp t (init ++ (last + 1) ∷ [])) (sym (rows_exact r s e)) ∙ lower) ∙ ap is_lt (sym e)
    by s long Greater e = ap (λ o. not (is_lt o)) (rows_total.trans s r (init ++ (last + 1) ∷ []) (greater_back r s e) lower) ∙ ap is_lt (sym e)

-- the last cell of a row isn't the greatest key
pub last_cell : (init : List ℕ) (last : ℕ) → AllByRecursion IsCell (init ++ last ∷ []) → last < 2 ^ 120
last_cell [] last all = all.0.1
last_cell (x ∷ init) last all = last_cell init last all.1

-- no row of width 0 is above another
pub none_above : (width : ℕ) (rows : List Row) (r : Row) → AllByRecursion (IsRow width) rows → IsRow width r → length r ≡ 0 → None ≡ first_above rows r
none_above width [] r all one none = refl
none_above width (s ∷ rows) r all one none =
    let empty : (t : Row) → length t ≡ 0 → t ≡ [] = is_empty in
    let left : r ≡ [] = empty r none in
    let right : s ≡ [] = empty s (all.0.is_wide ∙ sym one.is_wide ∙ none) in
    let off : is_lt (row_cmp r s) ≡ false = rw (left, right) refl in
    rw off (none_above width rows r all.1 one none)
  where
    is_empty : (t : Row) → length t ≡ 0 → t ≡ []
    is_empty [] h = refl
    is_empty (x ∷ t) h = absurd (omega arith)
