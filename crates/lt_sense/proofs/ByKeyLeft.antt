-- What is left without some keys.
use Rattle.std.proofs.Common.{◌≡◌, ℕ, ◌+◌, ◌<◌, ◌≤◌, Bool, true, false, not, ◌&&◌, ◌||◌, List, [], ◌∷◌, ◌++◌, length, nat_lt, filter, refl, sym, ap, ◌∙◌, arith, inl, inr, ◌⊎◌}
use Rattle.std.specs.Prelude.{◌==◌, if◌then◌else◌}
use Rattle.std.specs.List.{flat_map, AllByRecursion}
use mathlib.Core.Bool.{true≢false}
use Rattle.std.proofs.lemmas.Bool.{and_parts, and_from, eqb-true, eq-eqb, ltb-true, ltb-false}
use Rattle.std.proofs.lemmas.List.Folds.{list_any-append}
use Rattle.lt_face.specs.State.{Row, permuted}
use Rattle.lt_sense.specs.ByKeyRest.{KeyLists}
use Rattle.lt_sense.specs.declared.covering.Hit.{Hit}
use Rattle.lt_sense.specs.declared.covering.KeptGap.{KeptGap}
use Rattle.lt_sense.specs.declared.spans.Spans.{Spans}
use Rattle.lt_sense.specs.ByKey.{ByKey, KeySense, gap_at, have_at, has_key, slice_at, slices_at, slices_without, touches, IsAskableAt}
use Rattle.lt_sense.specs.ByKeyTold.{rests_at, tells, IsToldByKey, RestBut, TellBut}
use Rattle.lt_sense.specs.Clipped.{begins}
use Rattle.lt_sense.specs.Cut.{without_key, without_keys, has_room, cut}
use Rattle.lt_sense.specs.Gathered.{ranges_in}
use Rattle.lt_sense.specs.Sense.{covers, lies_in}
use Rattle.lt_sense.proofs.Spanned.{between, between_is, is_between, lies_nowhere, or_none, same_test}

-- ---- numbers

not_true : (b : Bool) → not b ≡ true → b ≡ false
not_true true e = sym e
not_true false e = refl

true_not : (b : Bool) → b ≡ false → not b ≡ true
true_not true e = sym e
true_not false e = refl

or_left : (a b : Bool) → a ≡ true → (a || b) ≡ true
or_left true b e = refl
or_left false b e = absurd (true≢false (sym e))

or_second : (a b : Bool) → b ≡ true → (a || b) ≡ true
or_second true b e = refl
or_second false b e = e

or_elim : {P : Type 0} (a b : Bool) → (a || b) ≡ true → (a ≡ true → P) → (b ≡ true → P) → P
or_elim true b e f g = f refl
or_elim false b e f g = g e

differ : (k x : ℕ) → (k == x) ≡ false → (k ≡ x) → ⊥
differ k x e is = true≢false (sym (eq-eqb k x is) ∙ e)

apart : (k x : ℕ) → ((k ≡ x) → ⊥) → (k == x) ≡ false
apart k x f = by (k == x) refl
  where
    by : (b : Bool) → b ≡ (k == x) → (k == x) ≡ false
    by true e = absurd (f (eqb-true k x (sym e)))
    by false e = sym e

beyond : (x k : ℕ) → k ≤ x → ((k ≡ x) → ⊥) → k + 1 ≤ x
beyond x k le f = grind (arith, le, f)

side : (x k : ℕ) → ((k ≡ x) → ⊥) → (x < k) ⊎ (k + 1 ≤ x)
side x k f = by (nat_lt x k) refl
  where
    by : (b : Bool) → b ≡ nat_lt x k → (x < k) ⊎ (k + 1 ≤ x)
    by true e = inl (ltb-true x k (sym e))
    by false e = inr (let le = ltb-false x k (sym e) in beyond x k le f)

-- what is left of a range of numbers
parts_number : (lo k hi x : ℕ) → lo ≤ k → k < hi → (between lo k x || between (k + 1) hi x) ≡ (between lo hi x && not (k == x))
parts_number lo k hi x low high = same_test (between lo k x || between (k + 1) hi x) (between lo hi x && not (k == x)) there back
  where
    there : (between lo k x || between (k + 1) hi x) ≡ true → (between lo hi x && not (k == x)) ≡ true
    there h =
        or_elim (between lo k x) (between (k + 1) hi x) h
        (λ e. let q = between_is lo k x e in and_from (between lo hi x) (not (k == x)) (is_between lo hi x q.0 (omega (arith, q.1, high))) (true_not (k == x) (apart k x (λ is. omega (arith, q.1, is)))))
        (λ e. let q = between_is (k + 1) hi x e in and_from (between lo hi x) (not (k == x)) (is_between lo hi x (omega (arith, q.0, low)) q.1) (true_not (k == x) (apart k x (λ is. omega (arith, q.0, is)))))

    on : (x < k) ⊎ (k + 1 ≤ x) → lo ≤ x → x < hi → (between lo k x || between (k + 1) hi x) ≡ true
    on (inl lt) a b = or_left (between lo k x) (between (k + 1) hi x) (is_between lo k x a lt)
    on (inr le) a b = or_second (between lo k x) (between (k + 1) hi x) (is_between (k + 1) hi x le b)

    back : (between lo hi x && not (k == x)) ≡ true → (between lo k x || between (k + 1) hi x) ≡ true
    back h =
        let q = and_parts (between lo hi x) (not (k == x)) h in
        let p = between_is lo hi x q.0 in
        on (side x k (differ k x (not_true (k == x) q.1))) p.0 p.1

-- a number outside takes nothing away
whole_number : (lo k hi x : ℕ) → between lo hi k ≡ false → between lo hi x ≡ (between lo hi x && not (k == x))
whole_number lo k hi x outside = same_test (between lo hi x) (between lo hi x && not (k == x)) there (λ h. (and_parts (between lo hi x) (not (k == x)) h).0)
  where
    there : between lo hi x ≡ true → (between lo hi x && not (k == x)) ≡ true
    there h = and_from (between lo hi x) (not (k == x)) h (true_not (k == x) (apart k x (λ is. true≢false (sym h ∙ ap (between lo hi) (sym is) ∙ outside))))

-- ---- a gap without a cell

-- whether cells lie between the bounds, and begin with the key
abbrev begin_between : ℕ → Bool → ℕ → ℕ → Row → Bool
begin_between key r lo hi cells = (r && lies_in [] lo hi cells) && begins key cells

cut_cells : (key k : ℕ) (r : Bool) (lo hi : ℕ) (cells : Row) → lo ≤ k → k < hi → (begin_between key r lo k cells || begin_between key r (k + 1) hi cells) ≡ (begin_between key r lo hi cells && not (k == key))
cut_cells key k false lo hi cells low high = refl
cut_cells key k true lo hi [] low high = refl
cut_cells key k true lo hi (x ∷ xs) low high = by (key == x) refl
  where
    and_true : (b : Bool) → (b && true) ≡ b
    and_true true = refl
    and_true false = refl

    and_false : (b : Bool) → (b && false) ≡ false
    and_false true = refl
    and_false false = refl

    with_true : (a b : Bool) → ((a && true) || (b && true)) ≡ (a || b)
    with_true true b = refl
    with_true false true = refl
    with_true false false = refl

    with_false : (a b : Bool) → ((a && false) || (b && false)) ≡ false
    with_false true true = refl
    with_false true false = refl
    with_false false true = refl
    with_false false false = refl

    by : (b : Bool) → b ≡ (key == x) → ((between lo k x && b) || (between (k + 1) hi x && b)) ≡ ((between lo hi x && b) && not (k == key))
    by true e =
        (let is : x ≡ key = sym (eqb-true key x (sym e)) in
        with_true (between lo k x) (between (k + 1) hi x) ∙ parts_number lo k hi x low high ∙ ap (λ y. between lo hi x && not (k == y)) is ∙ sym (ap (λ b. b && not (k == key)) (and_true (between lo hi x))))
    by false e = with_false (between lo k x) (between (k + 1) hi x) ∙ sym (ap (λ b. b && not (k == key)) (and_false (between lo hi x)))

whole_cells : (key k : ℕ) (r : Bool) (lo hi : ℕ) (cells : Row) → between lo hi k ≡ false → begin_between key r lo hi cells ≡ (begin_between key r lo hi cells && not (k == key))
whole_cells key k false lo hi cells outside = refl
whole_cells key k true lo hi [] outside = refl
whole_cells key k true lo hi (x ∷ xs) outside = by (key == x) refl
  where
    and_false : (b : Bool) → (b && false) ≡ false
    and_false true = refl
    and_false false = refl

    and_true : (b : Bool) → (b && true) ≡ b
    and_true true = refl
    and_true false = refl

    by : (b : Bool) → b ≡ (key == x) → (between lo hi x && b) ≡ ((between lo hi x && b) && not (k == key))
    by true e =
        (let is : x ≡ key = sym (eqb-true key x (sym e)) in
        and_true (between lo hi x) ∙ whole_number lo k hi x outside ∙ ap (λ y. between lo hi x && not (k == y)) is ∙ sym (ap (λ b. b && not (k == key)) (and_true (between lo hi x))))
    by false e = and_false (between lo hi x) ∙ sym (ap (λ b. b && not (k == key)) (and_false (between lo hi x)))

gap_cells : (key : ℕ) (gap : KeptGap) (relation : ℕ) (row : Row) → gap.prefix ≡ [] → gap_at key gap relation row ≡ begin_between key (gap.relation == relation) gap.lo gap.hi (permuted gap.columns row)
gap_cells key gap relation row none = ap (λ p. (gap.relation == relation && lies_in p gap.lo gap.hi (permuted gap.columns row)) && begins key (permuted gap.columns row)) none

cut_gap : (key k : ℕ) (gap : KeptGap) (relation : ℕ) (row : Row) → gap.prefix ≡ [] → have_at key (without_key k gap) relation row ≡ (gap_at key gap relation row && not (k == key))
cut_gap key k gap relation row none = by (between gap.lo gap.hi k) refl
  where
    r : Bool
    r = gap.relation == relation

    cells : Row
    cells = permuted gap.columns row

    low : KeptGap
    low = record gap { hi = k }

    high : KeptGap
    high = record gap { lo = k + 1 }

    parts : (b : Bool) → b ≡ between gap.lo gap.hi k → b ≡ true → (gap_at key low relation row || (gap_at key high relation row || false)) ≡ (gap_at key gap relation row && not (k == key))
    parts b e is =
        let q = between_is gap.lo gap.hi k (sym e ∙ is) in
        ap (λ x. gap_at key low relation row || x) (or_none (gap_at key high relation row))
        ∙ ap (λ x. x || gap_at key high relation row) (gap_cells key low relation row none)
        ∙ ap (λ x. begin_between key r gap.lo k cells || x) (gap_cells key high relation row none)
        ∙ cut_cells key k r gap.lo gap.hi cells q.0 q.1
        ∙ ap (λ x. x && not (k == key)) (sym (gap_cells key gap relation row none))

    by : (b : Bool) → b ≡ between gap.lo gap.hi k → have_at key (if b then low ∷ high ∷ [] else gap ∷ []) relation row ≡ (gap_at key gap relation row && not (k == key))
    by true e = parts true e refl
    by false e =
        or_none (gap_at key gap relation row)
        ∙ gap_cells key gap relation row none
        ∙ whole_cells key k r gap.lo gap.hi cells (sym e)
        ∙ ap (λ x. x && not (k == key)) (sym (gap_cells key gap relation row none))

-- ---- gaps without cells

or_and : (a b c : Bool) → ((a || b) && c) ≡ ((a && c) || (b && c))
or_and true true true = refl
or_and true true false = refl
or_and true false true = refl
or_and true false false = refl
or_and false b c = refl

cut_gaps : (key k : ℕ) (gaps : List KeptGap) (relation : ℕ) (row : Row) → AllByRecursion (λ (gap : KeptGap). gap.prefix ≡ []) gaps → have_at key (flat_map (without_key k) gaps) relation row ≡ (have_at key gaps relation row && not (k == key))
cut_gaps key k [] relation row bare = refl
cut_gaps key k (g ∷ gs) relation row bare =
    list_any-append (λ (gap : KeptGap). gap_at key gap relation row) (without_key k g) (flat_map (without_key k) gs)
    ∙ ap (λ b. b || have_at key (flat_map (without_key k) gs) relation row) (cut_gap key k g relation row bare.0)
    ∙ ap (λ b. (gap_at key g relation row && not (k == key)) || b) (cut_gaps key k gs relation row bare.1)
    ∙ sym (or_and (gap_at key g relation row) (have_at key gs relation row) (not (k == key)))

all_both : {X : Type 0} (P : X → Type 0) (xs ys : List X) → AllByRecursion P xs → AllByRecursion P ys → AllByRecursion P (xs ++ ys)
all_both P [] ys h k = k
all_both P (x ∷ xs) ys h k = (h.0, all_both P xs ys h.1 k)

cut_bare : (k : ℕ) (gap : KeptGap) → gap.prefix ≡ [] → AllByRecursion (λ (g : KeptGap). g.prefix ≡ []) (without_key k gap)
cut_bare k gap none = by (between gap.lo gap.hi k)
  where
    by : (b : Bool) → AllByRecursion (λ (g : KeptGap). g.prefix ≡ []) (if b then record gap { hi = k } ∷ record gap { lo = k + 1 } ∷ [] else gap ∷ [])
    by true = (none, (none, tt))
    by false = (none, tt)

bare_gaps : (k : ℕ) (gaps : List KeptGap) → AllByRecursion (λ (g : KeptGap). g.prefix ≡ []) gaps → AllByRecursion (λ (g : KeptGap). g.prefix ≡ []) (flat_map (without_key k) gaps)
bare_gaps k [] bare = tt
bare_gaps k (g ∷ gs) bare = all_both (λ (g : KeptGap). g.prefix ≡ []) (without_key k g) (flat_map (without_key k) gs) (cut_bare k g bare.0) (bare_gaps k gs bare.1)

without_bare : (keys : List ℕ) (gaps : List KeptGap) → AllByRecursion (λ (g : KeptGap). g.prefix ≡ []) gaps → AllByRecursion (λ (g : KeptGap). g.prefix ≡ []) (without_keys keys gaps)
without_bare [] gaps bare = bare
without_bare (k ∷ ks) gaps bare = without_bare ks (flat_map (without_key k) gaps) (bare_gaps k gaps bare)

without_at : (keys : List ℕ) (key : ℕ) (gaps : List KeptGap) (relation : ℕ) (row : Row) → AllByRecursion (λ (gap : KeptGap). gap.prefix ≡ []) gaps → have_at key (without_keys keys gaps) relation row ≡ (have_at key gaps relation row && not (has_key keys key))
without_at [] key gaps relation row bare = and_one (have_at key gaps relation row)
  where
    and_one : (b : Bool) → b ≡ (b && true)
    and_one true = refl
    and_one false = refl
without_at (k ∷ ks) key gaps relation row bare =
    without_at ks key (flat_map (without_key k) gaps) relation row (bare_gaps k gaps bare)
    ∙ ap (λ b. b && not (has_key ks key)) (cut_gaps key k gaps relation row bare)
    ∙ by (have_at key gaps relation row) (k == key) (has_key ks key)
  where
    by : (a b c : Bool) → ((a && not b) && not c) ≡ (a && not (b || c))
    by true true c = refl
    by true false c = refl
    by false b c = refl

-- empty ones have no row
roomy_at : (key : ℕ) (gaps : List KeptGap) (relation : ℕ) (row : Row) → have_at key (filter has_room gaps) relation row ≡ have_at key gaps relation row
roomy_at key [] relation row = refl
roomy_at key (g ∷ gs) relation row = by (has_room g) refl (roomy_at key gs relation row)
  where
    nothing : nat_lt g.lo g.hi ≡ false → gap_at key g relation row ≡ false
    nothing e = ap (λ b. (g.relation == relation && b) && begins key (permuted g.columns row)) (lies_nowhere g.prefix g.lo g.hi (ltb-false g.lo g.hi e) (permuted g.columns row)) ∙ none (g.relation == relation) (begins key (permuted g.columns row))
      where
        none : (a b : Bool) → ((a && false) && b) ≡ false
        none true b = refl
        none false b = refl

    by : (b : Bool) → b ≡ has_room g → have_at key (filter has_room gs) relation row ≡ have_at key gs relation row → have_at key (if b then g ∷ filter has_room gs else filter has_room gs) relation row ≡ (gap_at key g relation row || have_at key gs relation row)
    by true e later = ap (λ b. gap_at key g relation row || b) later
    by false e later = later ∙ ap (λ b. b || have_at key gs relation row) (sym (nothing (sym e)))

roomy_bare : (gaps : List KeptGap) → AllByRecursion (λ (g : KeptGap). g.prefix ≡ []) gaps → AllByRecursion (λ (g : KeptGap). g.prefix ≡ []) (filter has_room gaps)
roomy_bare [] bare = tt
roomy_bare (g ∷ gs) bare = by (has_room g) (roomy_bare gs bare.1)
  where
    by : (b : Bool) → AllByRecursion (λ (g : KeptGap). g.prefix ≡ []) (filter has_room gs) → AllByRecursion (λ (g : KeptGap). g.prefix ≡ []) (if b then g ∷ filter has_room gs else filter has_room gs)
    by true later = (bare.0, later)
    by false later = later

-- ---- slices of other keys

other_at : (keys : List ℕ) (key : ℕ) (slices : List KeySense) (relation : ℕ) (row : Row) → slices_at key (slices_without keys slices) relation row ≡ (slices_at key slices relation row && not (has_key keys key))
other_at keys key [] relation row = refl
other_at keys key (s ∷ ss) relation row = by (has_key keys s.key) refl (other_at keys key ss relation row)
  where
    of_key : slice_at key s relation row ≡ true → s.key ≡ key
    of_key h = eqb-true s.key key (and_parts (s.key == key) (covers s.sense relation row) h).0

    kept : (a r h : Bool) → (a ≡ true → h ≡ false) → (a || (r && not h)) ≡ ((a || r) && not h)
    kept true r true f = absurd (true≢false (f refl))
    kept true r false f = refl
    kept false r h f = refl

    gone : (a r h : Bool) → (a ≡ true → h ≡ true) → (r && not h) ≡ ((a || r) && not h)
    gone true true true f = refl
    gone true false true f = refl
    gone true r false f = absurd (true≢false (sym (f refl)))
    gone false r h f = refl

    by : (b : Bool) → b ≡ has_key keys s.key → slices_at key (slices_without keys ss) relation row ≡ (slices_at key ss relation row && not (has_key keys key))
        → slices_at key (if not b then s ∷ slices_without keys ss else slices_without keys ss) relation row ≡ ((slice_at key s relation row || slices_at key ss relation row) && not (has_key keys key))
    by true e later = later ∙ gone (slice_at key s relation row) (slices_at key ss relation row) (has_key keys key) (λ h. ap (has_key keys) (sym (of_key h)) ∙ sym e)
    by false e later = ap (λ b. slice_at key s relation row || b) later ∙ kept (slice_at key s relation row) (slices_at key ss relation row) (has_key keys key) (λ h. ap (has_key keys) (sym (of_key h)) ∙ sym e)

-- what holds of the slices of a key that is left
each_other : (keys : List ℕ) (key : ℕ) (Q : KeySense → Type 0) (slices : List KeySense) → has_key keys key ≡ false → AllByRecursion (λ (s : KeySense). s.key ≡ key → Q s) (slices_without keys slices) → AllByRecursion (λ (s : KeySense). s.key ≡ key → Q s) slices
each_other keys key Q [] other all = tt
each_other keys key Q (s ∷ ss) other all = by (has_key keys s.key) refl all (each_other keys key Q ss other)
  where
    by : (b : Bool) → b ≡ has_key keys s.key → AllByRecursion (λ (s : KeySense). s.key ≡ key → Q s) (if not b then s ∷ slices_without keys ss else slices_without keys ss)
        → (AllByRecursion (λ (s : KeySense). s.key ≡ key → Q s) (slices_without keys ss) → AllByRecursion (λ (s : KeySense). s.key ≡ key → Q s) ss) → AllByRecursion (λ (s : KeySense). s.key ≡ key → Q s) (s ∷ ss)
    by true e all later = ((λ is. absurd (true≢false (e ∙ ap (has_key keys) is ∙ other))), later all)
    by false e all later = (all.0, later all.1)

-- ---- all of it

pub told_without : (seen : ByKey) (keys : List ℕ) (lists new : List Spans) (rest more : List KeyLists) → IsToldByKey seen lists rest → TellBut keys (ranges_in lists) (ranges_in new) → RestBut keys rest more
    → IsToldByKey (record { root = cut keys seen.root; slices = slices_without keys seen.slices }) new more
told_without seen keys lists new rest more so left other = record {
  root_hits = refl;
  rooted = roomy_bare (without_keys keys seen.root.gaps) (without_bare keys seen.root.gaps so.rooted);
  told = λ key relation row ask.
      ap (λ b. b || slices_at key (slices_without keys seen.slices) relation row) (roomy_at key (without_keys keys seen.root.gaps) relation row ∙ without_at keys key seen.root.gaps relation row so.rooted)
      ∙ ap (λ b. (have_at key seen.root.gaps relation row && not (has_key keys key)) || b) (other_at keys key seen.slices relation row)
      ∙ sym (or_and (have_at key seen.root.gaps relation row) (slices_at key seen.slices relation row) (not (has_key keys key)))
      ∙ by key relation row (has_key keys key) refl ask
      ∙ or_and (have_at key (ranges_in lists) relation row) (rests_at key rest relation row) (not (has_key keys key))
      ∙ sym (ap (λ b. b || rests_at key more relation row) (left key relation row ask.below) ∙ ap (λ b. (have_at key (ranges_in lists) relation row && not (has_key keys key)) || b) (other key relation row ask.below));
}
  where
    and_false : (b : Bool) → (b && false) ≡ false
    and_false true = refl
    and_false false = refl

    by : (key relation : ℕ) (row : Row) (b : Bool) → b ≡ has_key keys key → IsAskableAt (record { root = cut keys seen.root; slices = slices_without keys seen.slices }) key relation row
        → (touches seen key relation row && not b) ≡ (tells lists rest key relation row && not b)
    by key relation row true e ask = and_false (touches seen key relation row) ∙ sym (and_false (tells lists rest key relation row))
    by key relation row false e ask =
        ap (λ b. b && true)
        (so.told key relation row (record {
          some = ask.some;
          below = ask.below;
          hits = each_other keys key (λ (slice : KeySense). AllByRecursion (λ (hit : Hit). hit.relation ≡ relation → length hit.row ≡ length row) slice.sense.hits) seen.slices (sym e) ask.hits;
        }))
