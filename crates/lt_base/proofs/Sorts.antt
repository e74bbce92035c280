-- An index built by a sort.
use Rattle.std.specs.Prelude.{◌≡◌, ◌≢◌, ℕ, zero, suc, ◌<◌, ◌≤◌, Bool, false, List, [], ◌∷◌, length, map, slice_index}
use Rattle.std.specs.List.{AllByRecursion, Contains, IsDistinct}
use Rattle.std.specs.List.Sorted.{IsSorted, IsPermutation}
use Rattle.std.specs.Ordering.{is_lt, is_eq, ordering_reverse}
use Rattle.std.specs.declared.cmp.Ordering.{Ordering}
use Rattle.std.specs.declared.cmp.Ordering.TheVariants.{Less, Equal, Greater}
use Rattle.std.proofs.Common.{refl, sym, ap, ◌∙◌, subst, inl, inr, arith, get_or}
use Rattle.std.proofs.lemmas.List.Sorted.{ranks_by, sorted_far, All-permutation, Contains-permutation, IsPermutation-sym}
use Rattle.std.proofs.lemmas.Map.Keys.{IsDistinct-IsPermutation}
use Rattle.lt_face.specs.Lists.{IsIn}
use Rattle.lt_face.specs.Rows.{row_cmp, IsCell, IsRow, IsAscending, IsRowSet}
use Rattle.lt_face.specs.State.{Row, permuted}
use Rattle.lt_face.proofs.RowLemmas.{rows_total, rows_exact, each_at, cmp_itself}
use Rattle.lt_face.proofs.Membership.{IsIn-map, IsIn-map_from}
use Rattle.lt_delta.specs.Columns.{IsPermOf, IsPermuted}
use Rattle.lt_base.proofs.Kept.{permuted_once}

-- ---- words on lists

all_from : {X : Type 0} (P : X → Type 0) (xs : List X) → ((k : ℕ) (d : X) → k < length xs → P (get_or xs k d)) → AllByRecursion P xs
all_from P [] at = tt
all_from P (x ∷ xs) at = (at 0 x (omega arith), all_from P xs (λ k d lt. at (suc k) d (omega arith)))

contained : (x : Row) (xs : List Row) → IsIn x xs → Contains xs x
contained x [] h = absurd h
contained x (y ∷ xs) h = elim h [
  | inl e ↦ (0, omega arith, e)
  | inr k ↦ let more = contained x xs k in (suc more.0, omega (arith, more.1), more.2)
]

standing : (x : Row) (xs : List Row) (k : ℕ) → k < length xs → get_or xs k x ≡ x → IsIn x xs
standing x [] k lt is = absurd (omega arith)
standing x (y ∷ xs) zero lt is = inl is
standing x (y ∷ xs) (suc k) lt is = inr (standing x xs k (omega arith) is)

-- ---- rows in another order of their columns

cells_kept : (row : Row) (columns : List ℕ) → AllByRecursion IsCell row → AllByRecursion (λ c. c < length row) columns → AllByRecursion IsCell (map (slice_index row) columns)
cells_kept row [] cells within = tt
cells_kept row (c ∷ columns) cells within = (each_at IsCell row c 0 cells within.0, cells_kept row columns cells within.1)

long_map : (row : Row) (columns : List ℕ) → length (map (slice_index row) columns) ≡ length columns
long_map row [] = refl
long_map row (c ∷ columns) = let e = long_map row columns in omega arith

pub permuted_row : (width : ℕ) (columns : List ℕ) (row : Row) → IsPermOf width columns → IsRow width row → IsRow width (permuted columns row)
permuted_row width columns row perm is = record {
  is_wide = long_map row columns ∙ perm.as_long;
  has_cells = cells_kept row columns is.has_cells (subst (λ n. AllByRecursion (λ c. c < n) columns) (sym is.is_wide) perm.within);
}

permuted_each : (width : ℕ) (columns : List ℕ) (rows : List Row) → IsPermOf width columns → AllByRecursion (IsRow width) rows → AllByRecursion (IsRow width) (map (permuted columns) rows)
permuted_each width columns [] perm all = tt
permuted_each width columns (r ∷ rows) perm all = (permuted_row width columns r perm all.0, permuted_each width columns rows perm all.1)

-- ---- no two rows of an index are the same

abbrev same_rows : Row → Row → Bool
same_rows a b = is_eq (row_cmp a b)

turned_eq : (o : Ordering) → is_eq (ordering_reverse o) ≡ is_eq o
turned_eq Less = refl
turned_eq Equal = refl
turned_eq Greater = refl

flips : (a b : Row) → same_rows a b ≡ same_rows b a
flips a b = ap is_eq (rows_total.antisymm a b) ∙ turned_eq (row_cmp b a)

differ : (a b : Row) → a ≢ b → (o : Ordering) → row_cmp a b ≡ o → is_eq o ≡ false
differ a b ne Less e = refl
differ a b ne Equal e = absurd (ne (rows_exact a b e))
differ a b ne Greater e = refl

unlike : (a b : Row) → row_cmp a b ≡ Less → a ≢ b
unlike a b less e = let tie : row_cmp a b ≡ Equal = ap (row_cmp a) (sym e) ∙ cmp_itself a in cc

apart : (width : ℕ) (columns : List ℕ) (r : Row) (rows : List Row) → IsPermOf width columns → IsRow width r → AllByRecursion (IsRow width) rows → AllByRecursion (λ s. row_cmp r s ≡ Less) rows → AllByRecursion (λ s. same_rows (permuted columns r) s ≡ false) (map (permuted columns) rows)
apart width columns r [] perm is all up = tt
apart width columns r (s ∷ rows) perm is all up =
    (differ (permuted columns r) (permuted columns s) (λ e. unlike r s up.0 (permuted_once width columns r s perm is.is_wide all.0.is_wide e)) (row_cmp (permuted columns r) (permuted columns s)) refl, apart width columns r rows perm is all.1 up.1)

distinct : (width : ℕ) (columns : List ℕ) (rows : List Row) → IsPermOf width columns → AllByRecursion (IsRow width) rows → IsAscending rows → IsDistinct same_rows (map (permuted columns) rows)
unfolding IsDistinct
distinct width columns [] perm all up = tt
distinct width columns (r ∷ rows) perm all up = (apart width columns r rows perm all.0 all.1 up.0, distinct width columns rows perm all.1 up.1)

-- ---- a sorted list of rows that differ ascends strictly

less_from : (a b : Row) → is_lt (row_cmp b a) ≡ false → same_rows a b ≡ false → (o : Ordering) → row_cmp a b ≡ o → row_cmp a b ≡ Less
less_from a b no_less no_tie Less e = e
less_from a b no_less no_tie Equal e = let f : is_eq Equal ≡ false = subst (λ o. is_eq o ≡ false) e no_tie in cc
less_from a b no_less no_tie Greater e =
    let f : row_cmp b a ≡ Less = rows_total.antisymm b a ∙ ap ordering_reverse e in
    let g : is_lt Less ≡ false = subst (λ o. is_lt o ≡ false) f no_less in cc

above_each : (x : Row) (xs : List Row) → ((k : ℕ) (d : Row) → k < length xs → is_lt (row_cmp (get_or xs k d) x) ≡ false) → AllByRecursion (λ y. same_rows x y ≡ false) xs → AllByRecursion (λ y. row_cmp x y ≡ Less) xs
above_each x [] far all = tt
above_each x (y ∷ xs) far all = (less_from x y (far 0 y (omega arith)) all.0 (row_cmp x y) refl, above_each x xs (λ k d lt. far (suc k) d (omega arith)) all.1)

rising : (xs : List Row) → ((i j : ℕ) (d : Row) → i ≤ j → j < length xs → is_lt (row_cmp (get_or xs j d) (get_or xs i d)) ≡ false) → IsDistinct same_rows xs → IsAscending xs
unfolding IsDistinct
rising [] far all = tt
rising (x ∷ xs) far all = (above_each x xs (λ k d lt. far 0 (suc k) d (omega arith) (omega arith)) all.0, rising xs (λ i j d le lt. far (suc i) (suc j) d (omega arith) (omega arith)) all.1)

-- ---- the index

module _ (width : ℕ) (columns : List ℕ) (rows sorted : List Row) (perm : IsPermOf width columns) (set : IsRowSet width rows) (moved : IsPermutation (map (permuted columns) rows) sorted) where
  pub sorted_set : IsSorted row_cmp sorted → IsRowSet width sorted
  sorted_set up = record {
    rises = rising sorted (sorted_far (λ a b. is_lt (row_cmp a b)) (ranks_by rows_total (λ (r : Row). r)) sorted up)
        (IsDistinct-IsPermutation same_rows flips (map (permuted columns) rows) sorted moved (distinct width columns rows perm set.each set.rises));
    each = all_from (IsRow width) sorted (All-permutation (IsRow width) (map (permuted columns) rows) sorted moved (λ k d lt. each_at (IsRow width) (map (permuted columns) rows) k d (permuted_each width columns rows perm set.each) lt));
  }

  pub sorted_same : IsPermuted width columns rows sorted
  sorted_same = record {
    perm = perm;
    there = λ row h.
        let k = Contains-permutation (map (permuted columns) rows) sorted (permuted columns row) moved (contained (permuted columns row) (map (permuted columns) rows) (IsIn-map (permuted columns) row rows h)) in
        standing (permuted columns row) sorted k.0 k.1 k.2;
    from = λ r h.
        let k = Contains-permutation sorted (map (permuted columns) rows) r (IsPermutation-sym (map (permuted columns) rows) sorted moved) (contained r sorted h) in
        IsIn-map_from (permuted columns) r rows (standing r (map (permuted columns) rows) k.0 k.1 k.2);
  }
