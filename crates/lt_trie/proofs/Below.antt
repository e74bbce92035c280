-- The place on the level below a key.
use Rattle.std.proofs.Common.{◌≡◌, ℕ, zero, suc, ◌+◌, ◌<◌, ◌≤◌, Bool, true, false, length, get_or, take, drop, List, [], ◌∷◌, ◌++◌, Some, None, refl, sym, ap, ◌∙◌, arith, slice_index, ◌==◌, cond, inl, inr, length-append, length-drop, length-take-le}
use Rattle.std.specs.Prelude.{unwrap_or, ◌⊎◌}
use mathlib.Core.Bool.{true≢false}
use Rattle.std.specs.List.{AllByRecursion}
use Rattle.std.specs.declared.cmp.Ordering.TheVariants.{Less}
use Rattle.std.specs.Ordering.{is_lt}
use Rattle.std.proofs.lemmas.Bool.Decides.{nat_tests}
use Rattle.lt_face.specs.Keys.{end_key, least_from}
use Rattle.lt_face.specs.Rows.{row_cmp, IsRowSet, first_from}
use Rattle.lt_face.proofs.RowLemmas.{rows_total, each_weaker, each_at}
use Rattle.lt_trie.specs.Under.{next_cell, keys_under, key_of}
use Rattle.lt_trie.specs.Stand.{cell_at, IsUnder, IsStand}
use Rattle.lt_trie.proofs.Cells.{cmp_equal, cmp_less, lands}
use Rattle.lt_trie.proofs.Firsts.{each_both, cut_again, is_less, begins_below, under_not_below, first_past, first_here}
use Rattle.lt_trie.proofs.Stands.{stand_rising, stand_wide_at, none_past, cut_ascends, drop_here}

-- ---- a prefix with one more key

under_more : (p : List ℕ) (k : ℕ) (r : List ℕ) → IsUnder p r → slice_index r (length p) ≡ k → length p + 1 < length r → IsUnder (p ++ k ∷ []) r
under_more [] k [] under at lt = absurd (omega arith)
under_more [] k (x ∷ []) under at lt = absurd (omega arith)
under_more [] k (x ∷ (y ∷ ys)) under at lt = let e : (k == x) ≡ true = grind (arith, nat_tests) in rw e refl
under_more (q ∷ ps) k [] under at lt = absurd (omega arith)
under_more (q ∷ ps) k (x ∷ xs) under at lt =
    elim (q == x) as (λ t. cond t (next_cell ps xs) None ≡ Some (slice_index xs (length ps)) → cond t (next_cell (ps ++ k ∷ []) xs) None ≡ Some (slice_index xs (length (ps ++ k ∷ [])))) [
      | true ↦ λ h. under_more ps k xs h at (omega arith)
      | false ↦ λ h. absurd (let e : ⊥ = cc in e)
    ] under

other_more : (p : List ℕ) (k : ℕ) (r : List ℕ) → IsUnder p r → k < slice_index r (length p) → next_cell (p ++ k ∷ []) r ≡ None
other_more [] k [] under above = refl
other_more [] k (x ∷ xs) under above = let e : (k == x) ≡ false = grind (arith, nat_tests) in rw e refl
other_more (q ∷ ps) k [] under above = refl
other_more (q ∷ ps) k (x ∷ xs) under above =
    elim (q == x) as (λ t. cond t (next_cell ps xs) None ≡ Some (slice_index xs (length ps)) → cond t (next_cell (ps ++ k ∷ []) xs) None ≡ None) [
      | true ↦ λ h. other_more ps k xs h above
      | false ↦ λ h. refl
    ] under

none_more : (p : List ℕ) (k : ℕ) (r : List ℕ) → next_cell p r ≡ None → next_cell (p ++ k ∷ []) r ≡ None
none_more [] k [] none = refl
none_more [] k (x ∷ xs) none = absurd (let e : ⊥ = cc in e)
none_more (q ∷ ps) k [] none = refl
none_more (q ∷ ps) k (x ∷ xs) none =
    elim (q == x) as (λ t. cond t (next_cell ps xs) None ≡ None → cond t (next_cell (ps ++ k ∷ []) xs) None ≡ None) [
      | true ↦ λ h. none_more ps k xs h
      | false ↦ λ h. refl
    ] none

longer_below : (p : List ℕ) (k b : ℕ) → row_cmp ((p ++ k ∷ []) ++ b ∷ []) (p ++ (k + 1) ∷ []) ≡ Less
longer_below [] k b = rw (cmp_less k (k + 1) (omega arith)) refl
longer_below (q ∷ ps) k b = rw (cmp_equal q) (longer_below ps k b)

past_more : (p : List ℕ) (k : ℕ) (r : List ℕ) → IsUnder p r → k < slice_index r (length p) → is_lt (row_cmp r ((p ++ k ∷ []) ++ 0 ∷ [])) ≡ false
past_more p k r under above = by (is_lt (row_cmp r ((p ++ k ∷ []) ++ 0 ∷ []))) refl
  where
    by : (t : Bool) → is_lt (row_cmp r ((p ++ k ∷ []) ++ 0 ∷ [])) ≡ t → t ≡ false
    by false e = refl
    by true e = absurd (true≢false (
        sym (ap is_lt (rows_total.trans r ((p ++ k ∷ []) ++ 0 ∷ []) (p ++ (k + 1) ∷ []) (is_less (row_cmp r ((p ++ k ∷ []) ++ 0 ∷ [])) e) (longer_below p k 0)))
        ∙ under_not_below p r (k + 1) under (omega arith)))

-- ---- the rows of a key, and those behind them

of_key : (p : List ℕ) (k : ℕ) (run : List (List ℕ)) (n : ℕ) → AllByRecursion (IsUnder p) run → AllByRecursion (λ row. length p + 1 < length row) run → n ≤ length run → ((i : ℕ) → i < n → cell_at run i (length p) ≡ k)
    → AllByRecursion (IsUnder (p ++ k ∷ [])) (take n run)
of_key p k run zero under wide le at = tt
of_key p k [] (suc n) under wide le at = tt
of_key p k (r ∷ run) (suc n) under wide le at = (under_more p k r under.0 (at 0 (omega arith)) wide.0, of_key p k run n under.1 wide.1 (omega arith) (λ i lt. at (suc i) (omega arith)))

behind_key : (P : List ℕ → Type 0) (p : List ℕ) (k : ℕ) (run : List (List ℕ)) (n : ℕ) → ((r : List ℕ) → IsUnder p r → k < slice_index r (length p) → P r) → AllByRecursion (IsUnder p) run
    → ((i : ℕ) → n ≤ i → i < length run → k + 1 ≤ cell_at run i (length p)) → AllByRecursion P (drop n run)
behind_key P p k [] zero each under high = tt
behind_key P p k [] (suc n) each under high = tt
behind_key P p k (r ∷ run) zero each under high = (each r under.0 (let h = high 0 (omega arith) (omega arith) in omega (arith, h)), behind_key P p k run zero each under.1 (λ i le lt. high (suc i) (omega arith) (omega arith)))
behind_key P p k (r ∷ run) (suc n) each under high = behind_key P p k run n each under.1 (λ i le lt. high (suc i) (omega arith) (omega arith))

take_first : (xs : List (List ℕ)) (n column : ℕ) → 0 < n → cell_at (take n xs) 0 column ≡ cell_at xs 0 column
take_first xs zero column some = absurd (omega arith)
take_first [] (suc n) column some = refl
take_first (x ∷ xs) (suc n) column some = refl

pub stand_below : (width : ℕ) (rows : List (List ℕ)) (p : List ℕ) (k : ℕ) (run : List (List ℕ)) (end : ℕ) (whole last : Bool) → IsRowSet width rows → length p + 1 < width → IsStand rows p k run end whole → 0 < end
    → (last ≡ true → (end < length run) ⊎ (whole ≡ true)) → IsStand rows (p ++ k ∷ []) (cell_at run 0 (length p + 1)) (take end run) 0 last
stand_below width rows p k run end whole last set deep s known ends =
    let cut = s.ended known in
    let rises = stand_rising rows p k run end whole set.rises s in
    let wide = stand_wide_at width (length p + 1) rows p k run end whole deep set s in
    let others = behind_key (λ r. next_cell (p ++ k ∷ []) r ≡ None) p k run end (other_more p k) s.under cut.high in
    let long = length-append p (k ∷ []) in
    let column : length (p ++ k ∷ []) ≡ length p + 1 = omega (arith, long) in
    record {
      front = s.front;
      back = drop end run ++ s.back;
      split = s.split ∙ ap (λ t. s.front ++ t) (cut_again run s.back end);
      some = (let d = length-take-le end run cut.within in omega (arith, d, known));
      at_key = take_first run end (length (p ++ k ∷ [])) known ∙ ap (cell_at run 0) column;
      passed = each_weaker (λ r. row_cmp r (p ++ k ∷ []) ≡ Less) (λ r. row_cmp r ((p ++ k ∷ []) ++ cell_at run 0 (length p + 1) ∷ []) ≡ Less)
          (λ r lt. rows_total.trans r (p ++ k ∷ []) ((p ++ k ∷ []) ++ cell_at run 0 (length p + 1) ∷ []) lt (begins_below (p ++ k ∷ []) (cell_at run 0 (length p + 1)))) s.front s.passed;
      under = of_key p k run end s.under wide cut.within (λ i lt.
          let within = cut.within in
          let low = cut.low i lt in
          let high = rises 0 i (omega arith) (omega (arith, within, lt)) in
          let key = s.at_key in
          omega (arith, low, high, key));
      ended = λ le. absurd (omega arith);
      last = λ e. elim (ends e) [
        | inl short ↦ none_past (p ++ k ∷ []) 0 (drop end run) s.back (let d = length-drop end run in omega (arith, d, short)) others
            (behind_key (λ r. is_lt (row_cmp r ((p ++ k ∷ []) ++ 0 ∷ [])) ≡ false) p k run end (past_more p k) s.under cut.high)
            (cut_ascends rows s.front run s.back end set.rises s.split)
        | inr all ↦ each_both (λ r. next_cell (p ++ k ∷ []) r ≡ None) (drop end run) s.back others (each_weaker (λ r. next_cell p r ≡ None) (λ r. next_cell (p ++ k ∷ []) r ≡ None) (none_more p k) s.back (s.last all))
      ];
    }

-- the least key below a key is in the row where that stands
pub least_below : (width : ℕ) (rows : List (List ℕ)) (p : List ℕ) (k : ℕ) (run : List (List ℕ)) (end : ℕ) (whole : Bool) → IsRowSet width rows → length p + 1 < width → IsStand rows p k run end whole
    → least_from (keys_under (p ++ k ∷ []) rows) 0 ≡ cell_at run 0 (length p + 1)
least_below width rows p k run end whole set deep s =
    let q = (p ++ k ∷ []) ++ 0 ∷ [] in
    let r = get_or run 0 [] in
    let long = length-append p (k ∷ []) in
    let column : length (p ++ k ∷ []) ≡ length p + 1 = omega (arith, long) in
    let under : IsUnder (p ++ k ∷ []) r = under_more p k r (each_at (IsUnder p) run 0 [] s.under s.some) s.at_key (each_at (λ row. length p + 1 < length row) run 0 [] (stand_wide_at width (length p + 1) rows p k run end whole deep set s) s.some) in
    let front : AllByRecursion (λ t. row_cmp t q ≡ Less) s.front = each_weaker (λ t. row_cmp t (p ++ k ∷ []) ≡ Less) (λ t. row_cmp t q ≡ Less) (λ t lt. rows_total.trans t (p ++ k ∷ []) q lt (begins_below (p ++ k ∷ []) 0)) s.front s.passed in
    let found : first_from rows q ≡ Some r =
    ap (λ t. first_from t q) s.split
    ∙ first_past s.front (run ++ s.back) q front
    ∙ ap (λ t. first_from (t ++ s.back) q) (drop_here run 0 s.some)
    ∙ first_here r (drop 1 run ++ s.back) q (under_not_below (p ++ k ∷ []) r 0 under (omega arith)) in
    sym (lands (p ++ k ∷ []) rows 0 set.rises) ∙ ap (key_of (p ++ k ∷ [])) found ∙ ap (λ o. unwrap_or o end_key) under ∙ ap (slice_index r) column
