-- What ranges by key tell, as gaps and slices come.
use Rattle.std.proofs.Common.{◌≡◌, ℕ, ◌<◌, Bool, true, false, ◌&&◌, ◌||◌, List, [], ◌∷◌, ◌++◌, length, nat_lt, refl, sym, ap, ◌∙◌}
use Rattle.std.specs.Prelude.{◌==◌, if◌then◌else◌}
use Rattle.std.specs.List.{list_any, AllByRecursion}
use Rattle.std.proofs.lemmas.Bool.{eqb-true}
use Rattle.std.proofs.lemmas.List.Folds.{list_any-append}
use Rattle.lt_face.specs.State.{Row}
use Rattle.lt_sense.specs.ByKeyRest.{KeyLists}
use Rattle.lt_sense.specs.declared.covering.Hit.{Hit}
use Rattle.lt_sense.specs.declared.covering.KeptGap.{KeptGap}
use Rattle.lt_sense.specs.declared.spans.Spans.{Spans}
use Rattle.lt_sense.specs.ByKey.{ByKey, KeySense, gap_at, have_at, put_slice, slice_at, slices_at, touches}
use Rattle.lt_sense.specs.ByKeyTold.{rests_at, tells, IsToldByKey, TakeIn, TellAlso, TellBoth, TellSame}
use Rattle.lt_sense.specs.Gathered.{ranges_in, IsSaid}
use Rattle.lt_sense.specs.Sense.{covers}
use Rattle.lt_sense.specs.Spans.{have, AreBelowEnd}
use Rattle.lt_sense.proofs.Sorted.{all_push}
use Rattle.lt_sense.proofs.Spanned.{or_none}

pub told_none : IsToldByKey (record { root = record { gaps = []; hits = [] }; slices = [] }) [] []
told_none = record { root_hits = refl; rooted = tt; told = λ key relation row ask. refl }

-- other lists that tell the same
pub told_lists : (seen : ByKey) (lists new : List Spans) (rest : List KeyLists) → IsToldByKey seen lists rest → TellSame (ranges_in new) (ranges_in lists) → IsToldByKey seen new rest
told_lists seen lists new rest so same = record {
  root_hits = so.root_hits;
  rooted = so.rooted;
  told = λ key relation row ask. so.told key relation row ask ∙ sym (ap (λ b. b || rests_at key rest relation row) (same key relation row ask.below));
}

any_end : {X : Type 0} (p : X → Bool) (xs : List X) (x : X) → list_any p (xs ++ x ∷ []) ≡ (list_any p xs || p x)
any_end p xs x = list_any-append p xs (x ∷ []) ∙ ap (λ b. list_any p xs || b) (or_none (p x))

-- a root gap more
pub told_root : (seen : ByKey) (lists new : List Spans) (rest : List KeyLists) (gap : KeptGap) → gap.prefix ≡ [] → IsToldByKey seen lists rest → TellAlso (ranges_in lists) (ranges_in new) gap
    → IsToldByKey (record { root = record { gaps = seen.root.gaps ++ gap ∷ []; hits = seen.root.hits }; slices = seen.slices }) new rest
told_root seen lists new rest gap none so also = record {
  root_hits = so.root_hits;
  rooted = all_push (λ (g : KeptGap). g.prefix ≡ []) seen.root.gaps gap so.rooted none;
  told = λ key relation row ask.
      ap (λ b. b || slices_at key seen.slices relation row) (any_end (λ (g : KeptGap). gap_at key g relation row) seen.root.gaps gap)
      ∙ by (have_at key seen.root.gaps relation row) (gap_at key gap relation row) (slices_at key seen.slices relation row)
      ∙ ap (λ b. b || gap_at key gap relation row) (so.told key relation row (record { some = ask.some; below = ask.below; hits = ask.hits }))
      ∙ sym (by (have_at key (ranges_in lists) relation row) (gap_at key gap relation row) (rests_at key rest relation row))
      ∙ ap (λ b. b || rests_at key rest relation row) (sym (also key relation row ask.below));
}
  where
    by : (a g s : Bool) → ((a || g) || s) ≡ ((a || s) || g)
    by true g s = refl
    by false true true = refl
    by false true false = refl
    by false false true = refl
    by false false false = refl

-- ---- a slice more

any_choice : (p : KeySense → Bool) (b : Bool) (xs ys : List KeySense) → list_any p xs ≡ list_any p ys → list_any p (if b then xs else ys) ≡ list_any p ys
any_choice p true xs ys e = e
any_choice p false xs ys e = refl

any_slice : (p : KeySense → Bool) (x : KeySense) (xs : List KeySense) → list_any p (put_slice x xs) ≡ (list_any p xs || p x)
any_slice p x [] = or_none (p x)
any_slice p x (y ∷ ys) =
    any_choice p (nat_lt x.key y.key) (x ∷ y ∷ ys) (y ∷ put_slice x ys) (turn (p x) (p y) (list_any p ys) ∙ ap (λ b. p y || b) (sym (any_slice p x ys)))
    ∙ ap (λ b. p y || b) (any_slice p x ys)
    ∙ by (p y) (list_any p ys) (p x)
  where
    turn : (a b c : Bool) → (a || (b || c)) ≡ (b || (c || a))
    turn true true c = refl
    turn true false true = refl
    turn true false false = refl
    turn false true c = refl
    turn false false true = refl
    turn false false false = refl

    by : (a b c : Bool) → (a || (b || c)) ≡ ((a || b) || c)
    by true b c = refl
    by false b c = refl

-- each of those that are there then
pub each_slice : (P : KeySense → Type 0) (x : KeySense) (xs : List KeySense) → AllByRecursion P (put_slice x xs) → P x × AllByRecursion P xs
each_slice P x [] h = (h.0, tt)
each_slice P x (y ∷ ys) h = by (nat_lt x.key y.key) h (each_slice P x ys)
  where
    by : (b : Bool) → AllByRecursion P (if b then x ∷ y ∷ ys else y ∷ put_slice x ys) → (AllByRecursion P (put_slice x ys) → P x × AllByRecursion P ys) → P x × AllByRecursion P (y ∷ ys)
    by true h later = (h.0, h.1)
    by false h later = (let q = later h.1 in (q.0, (h.0, q.1)))

-- where it is of the key, its ranges have what it covers
slice_said : (x : KeySense) (parts : List KeptGap) (key relation : ℕ) (row : Row) → IsSaid x.sense parts → 0 < length row → AreBelowEnd row → (x.key ≡ key → AllByRecursion (λ (hit : Hit). hit.relation ≡ relation → length hit.row ≡ length row) x.sense.hits)
    → slice_at key x relation row ≡ (x.key == key && have parts relation row)
slice_said x parts key relation row said some below wide = by (x.key == key) refl
  where
    by : (b : Bool) → b ≡ (x.key == key) → (b && covers x.sense relation row) ≡ (b && have parts relation row)
    by true e = said relation row (record { some = some; below = below; hits = wide (eqb-true x.key key (sym e)) })
    by false e = refl

pub told_slice : (seen : ByKey) (lists new : List Spans) (rest more : List KeyLists) (x : KeySense) (parts : List KeptGap) → IsToldByKey seen lists rest → IsSaid x.sense parts → TakeIn lists rest new more x.key parts
    → IsToldByKey (record { root = seen.root; slices = put_slice x seen.slices }) new more
told_slice seen lists new rest more x parts so said taken = record {
  root_hits = so.root_hits;
  rooted = so.rooted;
  told = λ key relation row ask.
      let each = each_slice (λ (slice : KeySense). slice.key ≡ key → AllByRecursion (λ (hit : Hit). hit.relation ≡ relation → length hit.row ≡ length row) slice.sense.hits) x seen.slices ask.hits in
      ap (λ b. have_at key seen.root.gaps relation row || b) (any_slice (λ (slice : KeySense). slice_at key slice relation row) x seen.slices)
      ∙ by (have_at key seen.root.gaps relation row) (slices_at key seen.slices relation row) (slice_at key x relation row)
      ∙ ap (λ b. b || slice_at key x relation row) (so.told key relation row (record { some = ask.some; below = ask.below; hits = each.1 }))
      ∙ ap (λ b. tells lists rest key relation row || b) (slice_said x parts key relation row said ask.some ask.below each.0)
      ∙ sym (taken key relation row ask.below);
}
  where
    by : (a b c : Bool) → (a || (b || c)) ≡ ((a || b) || c)
    by true b c = refl
    by false b c = refl

-- ---- all of another

all_parts : {X : Type 0} (P : X → Type 0) (xs ys : List X) → AllByRecursion P (xs ++ ys) → AllByRecursion P xs × AllByRecursion P ys
all_parts P [] ys h = (tt, h)
all_parts P (x ∷ xs) ys h = (let q = all_parts P xs ys h.1 in ((h.0, q.0), q.1))

all_both : {X : Type 0} (P : X → Type 0) (xs ys : List X) → AllByRecursion P xs → AllByRecursion P ys → AllByRecursion P (xs ++ ys)
all_both P [] ys h k = k
all_both P (x ∷ xs) ys h k = (h.0, all_both P xs ys h.1 k)

pub told_both : (one other : ByKey) (lists new others : List Spans) (rest more remains : List KeyLists) → IsToldByKey one lists rest → IsToldByKey other others remains → TellBoth lists rest new more others remains
    → IsToldByKey (record { root = record { gaps = one.root.gaps ++ other.root.gaps; hits = one.root.hits ++ other.root.hits }; slices = one.slices ++ other.slices }) new more
told_both one other lists new others rest more remains so also both = record {
  root_hits = ap (λ xs. xs ++ other.root.hits) so.root_hits ∙ also.root_hits;
  rooted = all_both (λ (gap : KeptGap). gap.prefix ≡ []) one.root.gaps other.root.gaps so.rooted also.rooted;
  told = λ key relation row ask.
      let each = all_parts (λ (slice : KeySense). slice.key ≡ key → AllByRecursion (λ (hit : Hit). hit.relation ≡ relation → length hit.row ≡ length row) slice.sense.hits) one.slices other.slices ask.hits in
      ap (λ b. b || slices_at key (one.slices ++ other.slices) relation row) (list_any-append (λ (gap : KeptGap). gap_at key gap relation row) one.root.gaps other.root.gaps)
      ∙ ap (λ b. (have_at key one.root.gaps relation row || have_at key other.root.gaps relation row) || b) (list_any-append (λ (slice : KeySense). slice_at key slice relation row) one.slices other.slices)
      ∙ by (have_at key one.root.gaps relation row) (have_at key other.root.gaps relation row) (slices_at key one.slices relation row) (slices_at key other.slices relation row)
      ∙ ap (λ b. b || touches other key relation row) (so.told key relation row (record { some = ask.some; below = ask.below; hits = each.0 }))
      ∙ ap (λ b. tells lists rest key relation row || b) (also.told key relation row (record { some = ask.some; below = ask.below; hits = each.1 }))
      ∙ sym (both key relation row ask.below);
}
  where
    by : (a b s t : Bool) → ((a || b) || (s || t)) ≡ ((a || s) || (b || t))
    by true b s t = refl
    by false true true t = refl
    by false true false t = refl
    by false false true t = refl
    by false false false t = refl
