-- Lists of ranges that are done, and which of a gap and a hit covers a row.
use Rattle.std.proofs.Common.{◌≡◌, ℕ, zero, suc, ◌+◌, ◌*◌, ◌<◌, ◌≤◌, true, false, ◌||◌, List, [], ◌∷◌, ◌++◌, length, take, slice_set, refl, sym, ap, ◌∙◌, subst, arith, inl, inr}
use mathlib.Core.Bool.{true≢false}
use Rattle.std.specs.Prelude.{◌==◌}
use Rattle.std.specs.List.{AllByRecursion, list_any}
use Rattle.std.proofs.lemmas.Bool.{and_parts, or_cases, eqb-true, false_from_ne_true}
use Rattle.lt_face.specs.State.{Row, State, Has, row_eq, permuted}
use Rattle.lt_sense.specs.declared.covering.KeptGap.{KeptGap}
use Rattle.lt_sense.specs.declared.covering.Hit.{Hit}
use Rattle.lt_sense.specs.declared.spans.Spans.{Spans}
use Rattle.lt_sense.specs.Kept.{Sense}
use Rattle.lt_sense.specs.Sense.{lies_in, gap_covers, hit_covers, covers, IsTight}
use Rattle.lt_sense.specs.Gathered.{IsAskable, IsSaid}
use Rattle.lt_sense.specs.Held.{held, held_in}
use Rattle.lt_sense.specs.Done.{IsDone}
use Rattle.lt_sense.specs.Spans.{have, growing, stills, ranges_of, HaveSameRows, GrowAlike}
use Rattle.lt_sense.proofs.Closed.{none_above}
use Rattle.lt_sense.proofs.Costs.{times_up}
use Rattle.lt_sense.proofs.Holding.{row_tied}
use Rattle.lt_sense.proofs.Spanned.{range_in, have_all, covers_nothing, or_none}

-- all rows of a list that is done are in ranges that are kept
pub done_have : (s : Spans) → IsDone s → (relation : ℕ) (row : Row) → have (ranges_of s) relation row ≡ have (stills s) relation row
done_have s done relation row =
    have_all (stills s) s.relation s.columns s.at s.above.items s.lo s.hi relation row
    ∙ ap (λ gaps. have (stills s) relation row || (have (growing s.relation s.columns s.at 0 gaps) relation row || gap_covers (range_in s.relation s.columns s.at s.lo s.hi) relation row)) (none_above s done.sound done.at)
    ∙ ap (λ b. have (stills s) relation row || b) (covers_nothing s.relation s.columns s.at s.lo s.hi done.none relation row)
    ∙ or_none (have (stills s) relation row)

-- where what grows is as it was
pub alike_rows : (old new : Spans) → GrowAlike old new → HaveSameRows (stills new) (stills old) → HaveSameRows (ranges_of new) (ranges_of old)
alike_rows old new alike same relation row below =
    have_all (stills new) new.relation new.columns new.at new.above.items new.lo new.hi relation row
    ∙ ap (λ b. b || (have (growing new.relation new.columns new.at 0 new.above.items) relation row || gap_covers (range_in new.relation new.columns new.at new.lo new.hi) relation row)) (same relation row below)
    ∙ rw (alike.relation, alike.columns, alike.at, alike.above, alike.lo, alike.hi) refl
    ∙ sym (have_all (stills old) old.relation old.columns old.at old.above.items old.lo old.hi relation row)

pub alike_held : (old new : Spans) → GrowAlike old new → length new.ranges.items ≤ length old.ranges.items → held new ≤ held old
alike_held old new alike le = rw (alike.above, alike.lo, alike.hi) (omega (arith, le))

-- what is said of what was seen
pub said_now : (seen now : Sense) (ranges : List KeptGap) (relation : ℕ) (row : Row) → seen ≡ now → IsSaid seen ranges → IsAskable now relation row → have ranges relation row ≡ covers now relation row
said_now seen now ranges relation row e said ask = sym (subst (λ s. IsSaid s ranges) e said relation row ask)

-- ---- lists one by one

pub all_set : {X : Type 0} (P : X → Type 0) (xs : List X) (i : ℕ) (y : X) → AllByRecursion P xs → P y → AllByRecursion P (slice_set xs i y)
all_set P [] i y all p = tt
all_set P (x ∷ xs) zero y all p = (p, all.1)
all_set P (x ∷ xs) (suc i) y all p = (all.0, all_set P xs i y all.1 p)

pub take_set : {X : Type 0} (xs : List X) (i : ℕ) (y : X) → i < length xs → take (i + 1) (slice_set xs i y) ≡ take i xs ++ y ∷ []
take_set [] i y lt = absurd (omega (arith, lt))
take_set (x ∷ xs) zero y lt = refl
take_set (x ∷ xs) (suc i) y lt = (let e : suc i + 1 ≡ suc (i + 1) = omega arith in ap (λ n. take n (x ∷ slice_set xs i y)) e) ∙ ap (λ ys. x ∷ ys) (take_set xs i y (omega (arith, lt)))

pub length_set : {X : Type 0} (xs : List X) (i : ℕ) (y : X) → length (slice_set xs i y) ≡ length xs
length_set [] i y = refl
length_set (x ∷ xs) zero y = refl
length_set (x ∷ xs) (suc i) y = ap suc (length_set xs i y)

-- no list has more ranges than all have
pub each_short : (lists : List Spans) (n : ℕ) → held_in lists < n → AllByRecursion (λ (s : Spans). length s.ranges.items < n) lists
each_short [] n lt = tt
each_short (s ∷ lists) n lt = (omega (arith, lt), each_short lists n (omega (arith, lt)))

-- what the lists of a relation cost, by how many orders it has
pub cost_orders : (count orders d first now : ℕ) → count ≤ orders + 1 → now ≤ first + count * d → now ≤ first + (8 * orders + 1) * d
cost_orders count orders d first now few le = (let e = times_up count (8 * orders + 1) d (omega (arith, few)) in omega (arith, e, le))

-- ---- a gap, or a hit

gap_absent : (state : State) (relation : ℕ) (row : Row) (gaps : List KeptGap) → AllByRecursion (λ (gap : KeptGap). (row : Row) → Has state gap.relation row → lies_in gap.prefix gap.lo gap.hi (permuted gap.columns row) ≡ false) gaps
    → Has state relation row → list_any (λ gap. gap_covers gap relation row) gaps ≡ false
gap_absent state relation row [] tight there = refl
gap_absent state relation row (g ∷ gs) tight there =
    ap (λ b. b || list_any (λ gap. gap_covers gap relation row) gs) (false_from_ne_true (gap_covers g relation row) (λ has.
    let parts = and_parts (g.relation == relation) (lies_in g.prefix g.lo g.hi (permuted g.columns row)) has in
    true≢false (sym parts.1 ∙ tight.0 row (subst (λ n. Has state n row) (sym (eqb-true g.relation relation parts.0)) there))))
    ∙ gap_absent state relation row gs tight.1 there

hit_there : (state : State) (relation : ℕ) (row : Row) (hits : List Hit) → AllByRecursion (λ (hit : Hit). Has state hit.relation hit.row) hits → list_any (λ hit. hit_covers hit relation row) hits ≡ true → Has state relation row
hit_there state relation row [] tight has = absurd (true≢false (sym has))
hit_there state relation row (h ∷ hs) tight has = elim (or_cases (hit_covers h relation row) (list_any (λ hit. hit_covers hit relation row) hs) has) [
  | inl here ↦
      (let parts = and_parts (h.relation == relation) (row_eq h.row row) here in
      subst (λ n. Has state n row) (eqb-true h.relation relation parts.0) (subst (λ r. Has state h.relation r) (row_tied h.row row parts.1) tight.0))
  | inr rest ↦ hit_there state relation row hs tight.1 rest
]

-- a row that was there is a hit
pub tight_hit : (sense : Sense) (state : State) (relation : ℕ) (row : Row) → IsTight sense state → Has state relation row → covers sense relation row ≡ true → list_any (λ hit. hit_covers hit relation row) sense.hits ≡ true
tight_hit sense state relation row tight there covered =
    ap (λ b. b || list_any (λ hit. hit_covers hit relation row) sense.hits) (sym (gap_absent state relation row sense.gaps tight.gaps there)) ∙ covered

-- one that wasn't lies in a gap
pub tight_gap : (sense : Sense) (state : State) (relation : ℕ) (row : Row) → IsTight sense state → (Has state relation row → ⊥) → covers sense relation row ≡ true → list_any (λ gap. gap_covers gap relation row) sense.gaps ≡ true
tight_gap sense state relation row tight absent covered = elim (or_cases (list_any (λ gap. gap_covers gap relation row) sense.gaps) (list_any (λ hit. hit_covers hit relation row) sense.hits) covered) [
  | inl gap ↦ gap
  | inr hit ↦ absurd (absent (hit_there state relation row sense.hits tight.hits hit))
]
