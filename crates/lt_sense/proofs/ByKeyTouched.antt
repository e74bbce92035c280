-- Which keys a row touches, as statements, and what is covered then.
use Rattle.std.proofs.Common.{◌≡◌, ℕ, Bool, true, false, ◌||◌, List, [], ◌∷◌, ◌++◌, length, slice_get, Some, refl, sym, ap, ◌∙◌, inl, inr, ◌⊎◌}
use Rattle.std.specs.Prelude.{◌==◌, is_some}
use Rattle.std.specs.List.{list_any, flat_map, AllByRecursion}
use mathlib.Core.Bool.{true≢false}
use Rattle.std.proofs.lemmas.Bool.{and_parts, and_from, eqb-true, eq-eqb}
use Rattle.std.proofs.lemmas.List.Folds.{list_any-append}
use Rattle.lt_face.specs.Lists.{IsIn}
use Rattle.lt_face.specs.State.{Row, permuted}
use Rattle.lt_sense.specs.ByKeyRest.{KeyLists}
use Rattle.lt_sense.specs.declared.covering.Hit.{Hit}
use Rattle.lt_sense.specs.declared.covering.KeptGap.{KeptGap}
use Rattle.lt_sense.specs.declared.spans.Spans.{Spans}
use Rattle.lt_sense.specs.ByKey.{ByKey, KeySense, gap_at, have_at, slice_at, slices_at, touches, united_by_key, IsAskableAt}
use Rattle.lt_sense.specs.ByKeyTold.{have_rest, rest_at, rests_at, tells, IsToldByKey}
use Rattle.lt_sense.specs.Clipped.{begins}
use Rattle.lt_sense.specs.Gathered.{ranges_in, IsAskable}
use Rattle.lt_sense.specs.Sense.{covers, gap_covers, hit_covers, lies_in}
use Rattle.lt_sense.specs.Spans.{have}
use Rattle.lt_sense.proofs.Sorted.{some_is}
use Rattle.lt_sense.proofs.Spanned.{or_none, same_test}

-- ---- words on truth

or_left : (a b : Bool) → a ≡ true → (a || b) ≡ true
or_left true b e = refl
or_left false b e = absurd (true≢false (sym e))

or_right : (a b : Bool) → b ≡ true → (a || b) ≡ true
or_right true b e = refl
or_right false b e = e

or_elim : {P : Type 0} (a b : Bool) → (a || b) ≡ true → (a ≡ true → P) → (b ≡ true → P) → P
or_elim true b e f g = f refl
or_elim false b e f g = g e

any_of : {X : Type 0} (p : X → Bool) (x : X) (xs : List X) → IsIn x xs → p x ≡ true → list_any p xs ≡ true
any_of p x [] there h = absurd there
any_of p x (y ∷ ys) (inl e) h = or_left (p y) (list_any p ys) (ap p e ∙ h)
any_of p x (y ∷ ys) (inr there) h = or_right (p y) (list_any p ys) (any_of p x ys there h)

any_from : {X : Type 0} (p : X → Bool) (xs : List X) → list_any p xs ≡ true → (x : X) × IsIn x xs × (p x ≡ true)
any_from p [] h = absurd (true≢false (sym h))
any_from {X} p (y ∷ ys) h = or_elim (p y) (list_any p ys) h (λ e. (y, inl refl, e)) (λ e. let q : (x : X) × IsIn x ys × (p x ≡ true) = any_from p ys e in (q.0, inr q.1, q.2))

-- ---- a row's first cell

begins_first : (key : ℕ) (cells : Row) → begins key cells ≡ true → slice_get cells 0 ≡ Some key
begins_first key [] e = absurd (true≢false (sym e))
begins_first key (x ∷ xs) e = ap Some (sym (eqb-true key x e))

first_begins : (key : ℕ) (cells : Row) → slice_get cells 0 ≡ Some key → begins key cells ≡ true
first_begins key [] e = absurd (true≢false (sym (ap is_some e)))
first_begins key (x ∷ xs) e = eq-eqb key x (sym (some_is x key e))

-- a row in a gap has a first cell
has_first : (gap : KeptGap) (relation : ℕ) (row : Row) → gap_covers gap relation row ≡ true → (key : ℕ) × (gap_at key gap relation row ≡ true)
has_first gap relation row has = by (permuted gap.columns row) refl
  where
    lies : lies_in gap.prefix gap.lo gap.hi (permuted gap.columns row) ≡ true
    lies = (and_parts (gap.relation == relation) (lies_in gap.prefix gap.lo gap.hi (permuted gap.columns row)) has).1

    by : (cells : Row) → cells ≡ permuted gap.columns row → (key : ℕ) × (gap_at key gap relation row ≡ true)
    by [] e = absurd (true≢false (sym (ap (lies_in gap.prefix gap.lo gap.hi) e ∙ lies)))
    by (x ∷ xs) e = (x, and_from (gap_covers gap relation row) (begins x (permuted gap.columns row)) has (ap (begins x) (sym e) ∙ eq-eqb x x refl))

-- ---- what touching says

-- a part of the key covers the row, or a root gap has it, and its first cell in the gap's order is the key
pub touched_is : (all : ByKey) (key relation : ℕ) (row : Row) → touches all key relation row ≡ true
    → ((slice : KeySense) × IsIn slice all.slices × (slice.key ≡ key) × (covers slice.sense relation row ≡ true)) ⊎ ((gap : KeptGap) × IsIn gap all.root.gaps × (gap_covers gap relation row ≡ true) × (slice_get (permuted gap.columns row) 0 ≡ Some key))
touched_is all key relation row is =
    or_elim (have_at key all.root.gaps relation row) (slices_at key all.slices relation row) is
    (λ e. let q = any_from (λ (gap : KeptGap). gap_at key gap relation row) all.root.gaps e in
    let p = and_parts (gap_covers q.0 relation row) (begins key (permuted q.0.columns row)) q.2 in
    inr (q.0, q.1, p.0, begins_first key (permuted q.0.columns row) p.1))
    (λ e. let q = any_from (λ (slice : KeySense). slice_at key slice relation row) all.slices e in
    let p = and_parts (q.0.key == key) (covers q.0.sense relation row) q.2 in
    inl (q.0, q.1, eqb-true q.0.key key p.0, p.1))

pub slice_touches : (all : ByKey) (key relation : ℕ) (row : Row) (slice : KeySense) → IsIn slice all.slices → slice.key ≡ key → covers slice.sense relation row ≡ true → touches all key relation row ≡ true
slice_touches all key relation row slice there is has =
    or_right (have_at key all.root.gaps relation row) (slices_at key all.slices relation row)
    (any_of (λ (slice : KeySense). slice_at key slice relation row) slice all.slices there (and_from (slice.key == key) (covers slice.sense relation row) (eq-eqb slice.key key is) has))

pub gap_touches : (all : ByKey) (key relation : ℕ) (row : Row) (gap : KeptGap) → IsIn gap all.root.gaps → gap_covers gap relation row ≡ true → slice_get (permuted gap.columns row) 0 ≡ Some key → touches all key relation row ≡ true
gap_touches all key relation row gap there has first =
    or_left (have_at key all.root.gaps relation row) (slices_at key all.slices relation row)
    (any_of (λ (gap : KeptGap). gap_at key gap relation row) gap all.root.gaps there (and_from (gap_covers gap relation row) (begins key (permuted gap.columns row)) has (first_begins key (permuted gap.columns row) first)))

-- ---- what is covered

abbrev have_hits : List Hit → ℕ → Row → Bool
have_hits hits relation row = list_any (λ (hit : Hit). hit_covers hit relation row) hits

abbrev some_covers : List KeySense → ℕ → Row → Bool
some_covers slices relation row = list_any (λ (slice : KeySense). covers slice.sense relation row) slices

slices_cover : (slices : List KeySense) (relation : ℕ) (row : Row)
    → (have (flat_map (λ (slice : KeySense). slice.sense.gaps) slices) relation row || have_hits (flat_map (λ (slice : KeySense). slice.sense.hits) slices) relation row) ≡ some_covers slices relation row
slices_cover [] relation row = refl
slices_cover (s ∷ ss) relation row =
    ap (λ b. b || have_hits (s.sense.hits ++ flat_map (λ (slice : KeySense). slice.sense.hits) ss) relation row) (list_any-append (λ (gap : KeptGap). gap_covers gap relation row) s.sense.gaps (flat_map (λ (slice : KeySense). slice.sense.gaps) ss))
    ∙ ap (λ b. (have s.sense.gaps relation row || have (flat_map (λ (slice : KeySense). slice.sense.gaps) ss) relation row) || b) (list_any-append (λ (hit : Hit). hit_covers hit relation row) s.sense.hits (flat_map (λ (slice : KeySense). slice.sense.hits) ss))
    ∙ by (have s.sense.gaps relation row) (have (flat_map (λ (slice : KeySense). slice.sense.gaps) ss) relation row) (have_hits s.sense.hits relation row) (have_hits (flat_map (λ (slice : KeySense). slice.sense.hits) ss) relation row)
    ∙ ap (λ b. covers s.sense relation row || b) (slices_cover ss relation row)
  where
    by : (a b c d : Bool) → ((a || b) || (c || d)) ≡ ((a || c) || (b || d))
    by true b c d = refl
    by false true true d = refl
    by false true false d = refl
    by false false true d = refl
    by false false false d = refl

-- what they keep together covers what the root does, or a part
pub united_covers : (all : ByKey) (relation : ℕ) (row : Row) → covers (united_by_key all) relation row ≡ (covers all.root relation row || some_covers all.slices relation row)
united_covers all relation row =
    ap (λ b. b || have_hits (all.root.hits ++ flat_map (λ (slice : KeySense). slice.sense.hits) all.slices) relation row) (list_any-append (λ (gap : KeptGap). gap_covers gap relation row) all.root.gaps (flat_map (λ (slice : KeySense). slice.sense.gaps) all.slices))
    ∙ ap (λ b. (have all.root.gaps relation row || have (flat_map (λ (slice : KeySense). slice.sense.gaps) all.slices) relation row) || b) (list_any-append (λ (hit : Hit). hit_covers hit relation row) all.root.hits (flat_map (λ (slice : KeySense). slice.sense.hits) all.slices))
    ∙ by (have all.root.gaps relation row) (have (flat_map (λ (slice : KeySense). slice.sense.gaps) all.slices) relation row) (have_hits all.root.hits relation row) (have_hits (flat_map (λ (slice : KeySense). slice.sense.hits) all.slices) relation row)
    ∙ ap (λ b. covers all.root relation row || b) (slices_cover all.slices relation row)
  where
    by : (a b c d : Bool) → ((a || b) || (c || d)) ≡ ((a || c) || (b || d))
    by true b c d = refl
    by false true true d = refl
    by false true false d = refl
    by false false true d = refl
    by false false false d = refl

-- a row that is covered touches a key, and one that touches a key is covered
pub covered_touches : (all : ByKey) (relation : ℕ) (row : Row) → all.root.hits ≡ [] → covers (united_by_key all) relation row ≡ true → (key : ℕ) × (touches all key relation row ≡ true)
covered_touches all relation row none is =
    or_elim (covers all.root relation row) (some_covers all.slices relation row) (sym (united_covers all relation row) ∙ is)
    (λ e. let gaps : have all.root.gaps relation row ≡ true = sym (or_none (have all.root.gaps relation row)) ∙ sym (ap (λ hits. have all.root.gaps relation row || have_hits hits relation row) none) ∙ e in
    let q = any_from (λ (gap : KeptGap). gap_covers gap relation row) all.root.gaps gaps in
    let p = has_first q.0 relation row q.2 in
    (p.0, or_left (have_at p.0 all.root.gaps relation row) (slices_at p.0 all.slices relation row) (any_of (λ (gap : KeptGap). gap_at p.0 gap relation row) q.0 all.root.gaps q.1 p.1)))
    (λ e. let q = any_from (λ (slice : KeySense). covers slice.sense relation row) all.slices e in
    (q.0.key, slice_touches all q.0.key relation row q.0 q.1 refl q.2))

pub touched_covers : (all : ByKey) (key relation : ℕ) (row : Row) → touches all key relation row ≡ true → covers (united_by_key all) relation row ≡ true
touched_covers all key relation row is =
    united_covers all relation row
    ∙ or_elim (have_at key all.root.gaps relation row) (slices_at key all.slices relation row) is
    (λ e. let q = any_from (λ (gap : KeptGap). gap_at key gap relation row) all.root.gaps e in
    or_left (covers all.root relation row) (some_covers all.slices relation row)
    (or_left (have all.root.gaps relation row) (have_hits all.root.hits relation row)
    (any_of (λ (gap : KeptGap). gap_covers gap relation row) q.0 all.root.gaps q.1 (and_parts (gap_covers q.0 relation row) (begins key (permuted q.0.columns row)) q.2).0)))
    (λ e. let q = any_from (λ (slice : KeySense). slice_at key slice relation row) all.slices e in
    or_right (covers all.root relation row) (some_covers all.slices relation row)
    (any_of (λ (slice : KeySense). covers slice.sense relation row) q.0 all.slices q.1 (and_parts (q.0.key == key) (covers q.0.sense relation row) q.2).1))

-- ---- what may be asked

all_parts : {X : Type 0} (P : X → Type 0) (xs ys : List X) → AllByRecursion P (xs ++ ys) → AllByRecursion P xs × AllByRecursion P ys
all_parts P [] ys h = (tt, h)
all_parts P (x ∷ xs) ys h = (let q = all_parts P xs ys h.1 in ((h.0, q.0), q.1))

each_wide : (P : Hit → Type 0) (key : ℕ) (slices : List KeySense) → AllByRecursion P (flat_map (λ (slice : KeySense). slice.sense.hits) slices) → AllByRecursion (λ (slice : KeySense). slice.key ≡ key → AllByRecursion P slice.sense.hits) slices
each_wide P key [] h = tt
each_wide P key (s ∷ ss) h = (let q = all_parts P s.sense.hits (flat_map (λ (slice : KeySense). slice.sense.hits) ss) h in ((λ is. q.0), each_wide P key ss q.1))

pub askable_at : (all : ByKey) (key relation : ℕ) (row : Row) → IsAskable (united_by_key all) relation row → IsAskableAt all key relation row
askable_at all key relation row ask = record {
  some = ask.some;
  below = ask.below;
  hits = each_wide (λ (hit : Hit). hit.relation ≡ relation → length hit.row ≡ length row) key all.slices (all_parts (λ (hit : Hit). hit.relation ≡ relation → length hit.row ≡ length row) all.root.hits (flat_map (λ (slice : KeySense). slice.sense.hits) all.slices) ask.hits).1;
}

-- ---- what ranges tell

told_has : (lists : List Spans) (rest : List KeyLists) (relation : ℕ) (row : Row) → (have (ranges_in lists) relation row || have_rest rest relation row) ≡ true → (key : ℕ) × (tells lists rest key relation row ≡ true)
told_has lists rest relation row is =
    or_elim (have (ranges_in lists) relation row) (have_rest rest relation row) is
    (λ e. let q = any_from (λ (gap : KeptGap). gap_covers gap relation row) (ranges_in lists) e in
    let p = has_first q.0 relation row q.2 in
    (p.0, or_left (have_at p.0 (ranges_in lists) relation row) (rests_at p.0 rest relation row) (any_of (λ (gap : KeptGap). gap_at p.0 gap relation row) q.0 (ranges_in lists) q.1 p.1)))
    (λ e. let q = any_from (λ (part : KeyLists). have (ranges_in part.lists) relation row) rest e in (
      q.0.key,
      or_right (have_at q.0.key (ranges_in lists) relation row) (rests_at q.0.key rest relation row)
          (any_of (λ (part : KeyLists). rest_at q.0.key part relation row) q.0 rest q.1 (and_from (q.0.key == q.0.key) (have (ranges_in q.0.lists) relation row) (eq-eqb q.0.key q.0.key refl) q.2)),
    ))

has_told : (lists : List Spans) (rest : List KeyLists) (key relation : ℕ) (row : Row) → tells lists rest key relation row ≡ true → (have (ranges_in lists) relation row || have_rest rest relation row) ≡ true
has_told lists rest key relation row is =
    or_elim (have_at key (ranges_in lists) relation row) (rests_at key rest relation row) is
    (λ e. let q = any_from (λ (gap : KeptGap). gap_at key gap relation row) (ranges_in lists) e in
    or_left (have (ranges_in lists) relation row) (have_rest rest relation row)
    (any_of (λ (gap : KeptGap). gap_covers gap relation row) q.0 (ranges_in lists) q.1 (and_parts (gap_covers q.0 relation row) (begins key (permuted q.0.columns row)) q.2).0))
    (λ e. let q = any_from (λ (part : KeyLists). rest_at key part relation row) rest e in
    or_right (have (ranges_in lists) relation row) (have_rest rest relation row)
    (any_of (λ (part : KeyLists). have (ranges_in part.lists) relation row) q.0 rest q.1 (and_parts (q.0.key == key) (have (ranges_in q.0.lists) relation row) q.2).1))

-- ranges have just the rows that are covered
pub told_covers : (seen : ByKey) (lists : List Spans) (rest : List KeyLists) (relation : ℕ) (row : Row) → IsToldByKey seen lists rest → IsAskable (united_by_key seen) relation row
    → (have (ranges_in lists) relation row || have_rest rest relation row) ≡ covers (united_by_key seen) relation row
told_covers seen lists rest relation row so ask = same_test (have (ranges_in lists) relation row || have_rest rest relation row) (covers (united_by_key seen) relation row) there back
  where
    there : (have (ranges_in lists) relation row || have_rest rest relation row) ≡ true → covers (united_by_key seen) relation row ≡ true
    there h = (let q = told_has lists rest relation row h in touched_covers seen q.0 relation row (so.told q.0 relation row (askable_at seen q.0 relation row ask) ∙ q.1))

    back : covers (united_by_key seen) relation row ≡ true → (have (ranges_in lists) relation row || have_rest rest relation row) ≡ true
    back h = (let q = covered_touches seen relation row so.root_hits h in has_told lists rest q.0 relation row (sym (so.told q.0 relation row (askable_at seen q.0 relation row ask)) ∙ q.1))
