-- Ranges that say what gaps and hits cover.
use Rattle.std.proofs.Common.{◌≡◌, ℕ, zero, suc, ◌+◌, ◌<◌, Bool, true, false, ◌&&◌, ◌||◌, List, [], ◌∷◌, ◌++◌, length, get_or, slice_set, slice_index, refl, sym, ap, ◌∙◌, subst, arith, inl, inr}
use Rattle.std.specs.Prelude.{◌==◌}
use Rattle.std.specs.List.{list_any}
use Rattle.std.proofs.lemmas.Bool.{and_parts, and_from, eqb-true, eq-eqb}
use Rattle.lt_face.specs.Lists.{IsIn}
use Rattle.lt_face.specs.State.{Row, row_eq, permuted}
use Rattle.lt_sense.specs.declared.covering.KeptGap.{KeptGap}
use Rattle.lt_sense.specs.declared.covering.Hit.{Hit}
use Rattle.lt_sense.specs.Kept.{Sense}
use Rattle.lt_sense.specs.Sense.{lies_in, gap_covers, hit_covers}
use Rattle.lt_sense.specs.Spans.{have, ranges_of, HaveSameRows, HaveAlso}
use Rattle.std.proofs.lemmas.List.Folds.{list_any-append}
use Rattle.lt_sense.specs.declared.spans.Spans.{Spans}
use Rattle.lt_sense.specs.Gathered.{ranges_in, IsOrder, IsAskable, IsSaid}
use Rattle.lt_sense.proofs.Sorted.{all_init}
use Rattle.lt_sense.proofs.Spanned.{same_test, between, is_between, between_is, or_none, have_next}

pub said_same : (seen : Sense) (old new : List KeptGap) → IsSaid seen old → HaveSameRows new old → IsSaid seen new
said_same seen old new said same relation row ask = said relation row ask ∙ sym (same relation row ask.below)

abbrev have_hits : List Hit → ℕ → Row → Bool
have_hits hits relation row = list_any (λ hit. hit_covers hit relation row) hits

-- a gap more
pub said_gap : (seen : Sense) (old new : List KeptGap) (gap : KeptGap) → IsSaid seen old → HaveAlso old new gap → IsSaid (record { gaps = seen.gaps ++ gap ∷ []; hits = seen.hits }) new
said_gap seen old new gap said also relation row ask =
    ap (λ b. b || have_hits seen.hits relation row) (have_next seen.gaps gap relation row)
    ∙ by (have seen.gaps relation row) (gap_covers gap relation row) (have_hits seen.hits relation row)
    ∙ ap (λ b. b || gap_covers gap relation row) (said relation row (record { some = ask.some; below = ask.below; hits = ask.hits }))
    ∙ sym (also relation row ask.below)
  where
    by : (g c h : Bool) → ((g || c) || h) ≡ ((g || h) || c)
    by true c h = refl
    by false true true = refl
    by false true false = refl
    by false false true = refl
    by false false false = refl

next_hit : (hits : List Hit) (hit : Hit) (relation : ℕ) (row : Row) → have_hits (hits ++ hit ∷ []) relation row ≡ (have_hits hits relation row || hit_covers hit relation row)
next_hit [] hit relation row = or_none (hit_covers hit relation row)
next_hit (h ∷ hs) hit relation row = by (hit_covers h relation row) (next_hit hs hit relation row)
  where
    by : (b : Bool) → have_hits (hs ++ hit ∷ []) relation row ≡ (have_hits hs relation row || hit_covers hit relation row) → (b || have_hits (hs ++ hit ∷ []) relation row) ≡ ((b || have_hits hs relation row) || hit_covers hit relation row)
    by true e = refl
    by false e = e

-- a hit more
pub said_hit : (seen : Sense) (old new : List KeptGap) (hit : Hit) → IsSaid seen old
    → ((relation : ℕ) (row : Row) → IsAskable (record { gaps = seen.gaps; hits = seen.hits ++ hit ∷ [] }) relation row → have new relation row ≡ (have old relation row || hit_covers hit relation row))
    → IsSaid (record { gaps = seen.gaps; hits = seen.hits ++ hit ∷ [] }) new
said_hit seen old new hit said also relation row ask =
    let parts = all_init (λ (h : Hit). h.relation ≡ relation → length h.row ≡ length row) seen.hits hit ask.hits in
    ap (λ b. have seen.gaps relation row || b) (next_hit seen.hits hit relation row)
    ∙ by (have seen.gaps relation row) (have_hits seen.hits relation row) (hit_covers hit relation row)
    ∙ ap (λ b. b || hit_covers hit relation row) (said relation row (record { some = ask.some; below = ask.below; hits = parts.0 }))
    ∙ sym (also relation row ask)
  where
    by : (g h c : Bool) → (g || (h || c)) ≡ ((g || h) || c)
    by true h c = refl
    by false h c = refl

-- ---- a row that was met, as a range

-- the row with these cells alone
pub lies_row : (init : Row) (k : ℕ) (ys : Row) → length ys ≡ length init + 1 → lies_in init k (k + 1) ys ≡ row_eq (init ++ k ∷ []) ys
lies_row init k [] long = absurd (omega (arith, long))
lies_row [] k (y ∷ []) long = same_test _ _ there back
  where
    there : between k (k + 1) y ≡ true → ((k == y) && true) ≡ true
    there h = (let q = between_is k (k + 1) y h in and_from (k == y) true (eq-eqb k y (omega (arith, q.0, q.1))) refl)

    back : ((k == y) && true) ≡ true → between k (k + 1) y ≡ true
    back h = (let e : k ≡ y = eqb-true k y (and_parts (k == y) true h).0 in is_between k (k + 1) y (omega (arith, e)) (omega (arith, e)))
lies_row [] k (y ∷ z ∷ zs) long = absurd (omega (arith, long))
lies_row (p ∷ ps) k (y ∷ ys) long = ap (λ b. (p == y) && b) (lies_row ps k ys (omega (arith, long)))

heads_same : {x y : ℕ} {xs ys : Row} → (x ∷ xs) ≡ (y ∷ ys) → x ≡ y
heads_same {x} {y} {xs} {ys} e = ap (λ zs. slice_index zs 0) e

tails_same : {x y : ℕ} {xs ys : Row} → (x ∷ xs) ≡ (y ∷ ys) → xs ≡ ys
tails_same {x} {y} {xs} {ys} e = ap tail e
  where
    tail : Row → Row
    tail [] = []
    tail (z ∷ zs) = zs

at_each : (columns : List ℕ) (h row : Row) → permuted columns h ≡ permuted columns row → (c : ℕ) → IsIn c columns → slice_index h c ≡ slice_index row c
at_each [] h row e c there = absurd there
at_each (d ∷ ds) h row e c (inl is) = subst (λ x. slice_index h x ≡ slice_index row x) is (heads_same e)
at_each (d ∷ ds) h row e c (inr rest) = at_each ds h row (tails_same e) c rest

same_cells : (xs ys : Row) → length xs ≡ length ys → ((i : ℕ) → i < length xs → slice_index xs i ≡ slice_index ys i) → xs ≡ ys
same_cells [] [] long each = refl
same_cells [] (y ∷ ys) long each = absurd (omega (arith, long))
same_cells (x ∷ xs) [] long each = absurd (omega (arith, long))
same_cells (x ∷ xs) (y ∷ ys) long each =
    ap (λ z. z ∷ xs) (each 0 (omega arith)) ∙ ap (λ zs. y ∷ zs) (same_cells xs ys (omega (arith, long)) (λ i lt. each (suc i) (omega (arith, lt))))

-- rows with the same cells in an order of all columns are the same
pub same_permuted : (columns : List ℕ) (h row : Row) → IsOrder columns → length h ≡ length columns → length row ≡ length columns → permuted columns h ≡ permuted columns row → h ≡ row
same_permuted columns h row order a b e = same_cells h row (a ∙ sym b) (λ i lt. at_each columns h row e i (order i (omega (arith, a, lt))))

-- ---- one list of several

pub have_first : (s : Spans) (rest : List Spans) (relation : ℕ) (row : Row) → have (ranges_in (s ∷ rest)) relation row ≡ (have (ranges_of s) relation row || have (ranges_in rest) relation row)
have_first s rest relation row = list_any-append (λ range. gap_covers range relation row) (ranges_of s) (ranges_in rest)

pub have_set : (lists : List Spans) (at : ℕ) (s t : Spans) (c : Bool) (relation : ℕ) (row : Row) → at < length lists → s ≡ get_or lists at s → have (ranges_of t) relation row ≡ (have (ranges_of s) relation row || c)
    → have (ranges_in (slice_set lists at t)) relation row ≡ (have (ranges_in lists) relation row || c)
have_set [] at s t c relation row lt there is = absurd (omega (arith, lt))
have_set (x ∷ xs) zero s t c relation row lt there is =
    have_first t xs relation row
    ∙ ap (λ b. b || have (ranges_in xs) relation row) (is ∙ ap (λ y. have (ranges_of y) relation row || c) there)
    ∙ by (have (ranges_of x) relation row) c (have (ranges_in xs) relation row)
    ∙ ap (λ b. b || c) (sym (have_first x xs relation row))
  where
    by : (a c r : Bool) → ((a || c) || r) ≡ ((a || r) || c)
    by true c r = refl
    by false true true = refl
    by false true false = refl
    by false false true = refl
    by false false false = refl
have_set (x ∷ xs) (suc i) s t c relation row lt there is =
    have_first x (slice_set xs i t) relation row
    ∙ ap (λ b. have (ranges_of x) relation row || b) (have_set xs i s t c relation row (omega (arith, lt)) there is)
    ∙ by (have (ranges_of x) relation row) (have (ranges_in xs) relation row) c
    ∙ ap (λ b. b || c) (sym (have_first x xs relation row))
  where
    by : (a r c : Bool) → (a || (r || c)) ≡ ((a || r) || c)
    by true r c = refl
    by false r c = refl
