-- Rows that follow one another, and their cells in one column.
use Rattle.std.proofs.Common.{◌≡◌, ℕ, zero, suc, ◌+◌, ◌<◌, ◌≤◌, Bool, true, false, length, get_or, take, drop, List, [], ◌∷◌, Option, Some, None, refl, sym, ap, ◌∙◌, arith, slice_index, is_some, ◌==◌, cond}
use mathlib.Core.Bool.{true≢false}
use Rattle.std.specs.List.{AllByRecursion}
use Rattle.std.proofs.lemmas.List.{get_or_default}
use Rattle.lt_trie.specs.Under.{next_cell}
use Rattle.lt_trie.specs.Stand.{cell_at, ComeFirst, IsUnder, IsRising}

-- a row's cell where the row stands at a place
pub cell_here : (run : List (List ℕ)) (n column : ℕ) (r : List ℕ) → n < length run → r ≡ get_or run n r → cell_at run n column ≡ slice_index r column
cell_here run n column r lt is = ap (λ s. slice_index s column) (get_or_default run n [] r lt ∙ sym is)

-- what a cell that is below the bound, or isn't, says of those around it
pub low_to : (run : List (List ℕ)) (n column bound : ℕ) (r : List ℕ) → IsRising run column → n < length run → r ≡ get_or run n r → slice_index r column < bound
    → (i : ℕ) → i < n + 1 → cell_at run i column < bound
low_to run n column bound r rising lt is low i before =
    let here = cell_here run n column r lt is in
    let le = rising i n (omega (arith, before)) lt in
    omega (arith, here, le, low)

pub high_from : (run : List (List ℕ)) (n column bound : ℕ) (r : List ℕ) → IsRising run column → n < length run → r ≡ get_or run n r → bound ≤ slice_index r column
    → (i : ℕ) → n ≤ i → i < length run → bound ≤ cell_at run i column
high_from run n column bound r rising lt is high i from within =
    let here = cell_here run n column r lt is in
    let le = rising n i from within in
    omega (arith, here, le, high)

-- ---- rows that begin with a prefix

pub rest_some : (p r : List ℕ) → length p < length r → is_some (next_cell (drop (length p) p) (drop (length p) r)) ≡ true
rest_some [] [] lt = absurd (omega arith)
rest_some [] (x ∷ xs) lt = refl
rest_some (q ∷ ps) [] lt = absurd (omega arith)
rest_some (q ∷ ps) (x ∷ xs) lt = rest_some ps xs (omega arith)

pub under_of : (p r : List ℕ) → is_some (next_cell p r) ≡ true → IsUnder p r
under_of [] [] h = absurd (true≢false (sym h))
under_of [] (x ∷ xs) h = refl
under_of (q ∷ ps) [] h = absurd (true≢false (sym h))
under_of (q ∷ ps) (x ∷ xs) h =
    elim (q == x) as (λ t. is_some (cond t (next_cell ps xs) None) ≡ true → cond t (next_cell ps xs) None ≡ Some (slice_index xs (length ps))) [
      | true ↦ λ k. under_of ps xs k
      | false ↦ λ k. absurd (true≢false (sym k))
    ] h

pub none_of : (o : Option ℕ) → is_some o ≡ false → o ≡ None
none_of None h = refl
none_of (Some c) h = absurd (true≢false h)

some_here : (p : List ℕ) (run : List (List ℕ)) (n : ℕ) (r : List ℕ) → n < length run → r ≡ get_or run n r → is_some (next_cell p (get_or run n [])) ≡ is_some (next_cell p r)
some_here p run n r lt is = ap (λ s. is_some (next_cell p s)) (get_or_default run n [] r lt ∙ sym is)

pub under_to : (p : List ℕ) (run : List (List ℕ)) (n : ℕ) (r : List ℕ) → ComeFirst p run → n < length run → r ≡ get_or run n r → is_some (next_cell p r) ≡ true
    → (i : ℕ) → i < n + 1 → is_some (next_cell p (get_or run i [])) ≡ true
under_to p run n r first lt is under i before = first i n (omega (arith, before)) lt (some_here p run n r lt is ∙ under)

pub others_from : (p : List ℕ) (run : List (List ℕ)) (n : ℕ) (r : List ℕ) → ComeFirst p run → n < length run → r ≡ get_or run n r → is_some (next_cell p r) ≡ false
    → (i : ℕ) → n ≤ i → i < length run → is_some (next_cell p (get_or run i [])) ≡ false
others_from p run n r first lt is other i from within = by (is_some (next_cell p (get_or run i []))) refl
  where
    by : (t : Bool) → is_some (next_cell p (get_or run i [])) ≡ t → t ≡ false
    by true e = absurd (true≢false (sym (first n i from within e) ∙ some_here p run n r lt is ∙ other))
    by false e = refl

pub all_under : (p : List ℕ) (run : List (List ℕ)) (n : ℕ) → ((i : ℕ) → i < n → is_some (next_cell p (get_or run i [])) ≡ true) → n ≤ length run → AllByRecursion (IsUnder p) (take n run)
all_under p run zero each le = tt
all_under p [] (suc n) each le = tt
all_under p (r ∷ run) (suc n) each le = (under_of p r (each 0 (omega arith)), all_under p run n (λ i lt. each (suc i) (omega arith)) (omega arith))

pub all_others : (p : List ℕ) (run : List (List ℕ)) (n : ℕ) → ((i : ℕ) → n ≤ i → i < length run → is_some (next_cell p (get_or run i [])) ≡ false) → AllByRecursion (λ r. next_cell p r ≡ None) (drop n run)
all_others p [] zero each = tt
all_others p [] (suc n) each = tt
all_others p (r ∷ run) zero each = (none_of (next_cell p r) (each 0 (omega arith) (omega arith)), all_others p run zero (λ i le lt. each (suc i) (omega arith) (omega arith)))
all_others p (r ∷ run) (suc n) each = all_others p run n (λ i le lt. each (suc i) (omega arith) (omega arith))
