-- The rows with a key, one after another.
use Rattle.std.proofs.Common.{◌≡◌, ℕ, zero, suc, ◌+◌, ◌≤◌, ◌<◌, true, false, cond, List, [], ◌∷◌, ◌++◌, length, slice_get, Option, Some, None, Bor, refl, sym, ap, subst, ◌∙◌, arith, inl, inr}
use Rattle.std.specs.Prelude.{take, slice_index, not}
use Rattle.std.specs.List.{AllByRecursion}
use Rattle.std.specs.Ordering.{is_lt, nat_cmp, ordering_then}
use Rattle.std.specs.declared.cmp.Ordering.{Ordering}
use Rattle.std.specs.declared.cmp.Ordering.TheVariants.{Less, Equal, Greater}
use Rattle.std.proofs.lemmas.Bool.{cases_lt, true≢false}
use Rattle.std.proofs.lemmas.List.{append_assoc, append-nil, length-append}
use Rattle.std.proofs.lemmas.List.Elements.{filter-append}
use Rattle.lt_face.specs.Lists.{IsIn}
use Rattle.std.specs.Option.{option_copied}
use Rattle.lt_face.specs.Rows.{row_cmp, IsRow, IsRowSet, IsAscending, first_from, first_above, has_row}
use Rattle.lt_face.specs.State.{Row}
use Rattle.lt_face.proofs.Membership.{IsIn-append_right}
use Rattle.lt_face.proofs.RowLemmas.{less_back, cmp_itself, each_weaker}
use Rattle.lt_model.specs.Effect.{same_row}
use Rattle.lt_model.proofs.Laws.{same_is, itself}
use Rattle.lt_query.proofs.Ascending.{has_row_is}
use Rattle.lt_query.proofs.Wide.{each_in}
use Rattle.lt_program.specs.Displacing.{has_key_of, with_key}
use Rattle.lt_program.proofs.Around.{chain}
use Rattle.lt_program.proofs.FirstCells.{differs, less_by, fewer, cell_of_first}

-- ---- what has the key isn't below it

-- a row isn't below its first cells
front_below : (n : ℕ) (r : Row) → row_cmp r (take n r) ≡ Less → ⊥
front_below zero [] h = let bad : Equal ≡ Less = h in cc
front_below zero (x ∷ r) h = let bad : Greater ≡ Less = h in cc
front_below (suc n) [] h = let bad : Equal ≡ Less = h in cc
front_below (suc n) (x ∷ r) h = let same : nat_cmp x x ≡ Equal = grind arith in front_below n r (sym (ap (λ o. ordering_then o (row_cmp r (take n r))) same) ∙ h)

-- not below the key
abbrev pub IsFrom : Row → Row → Type 0
IsFrom q r = row_cmp r q ≡ Less → ⊥

below_lacks : (keys : ℕ) (row r : Row) → row_cmp r (take keys row) ≡ Less → has_key_of keys row r ≡ false
below_lacks keys row r h =
    elim (has_key_of keys row r) as (λ b. has_key_of keys row r ≡ b → b ≡ false) [
      | true ↦ λ e. absurd (front_below keys r (subst (λ (q : Row). row_cmp r q ≡ Less) (sym (same_is (take keys r) (take keys row) e)) h))
      | false ↦ λ e. refl
    ] refl

-- ---- how far the walk has come

-- the rows before the next one, and the rest
pub record IsWalkedTo (keys : ℕ) (row : Row) (rows alike : List Row) (next : Option Row) : Type 0 where
  pub before : List Row
  pub rest : List Row
  pub whole : rows ≡ before ++ rest
  pub stands : next ≡ slice_get rest 0
  pub found : alike ≡ with_key keys row before
  pub from : AllByRecursion (IsFrom (take keys row)) rest

from_all : (q r : Row) (rows : List Row) → AllByRecursion (λ s. row_cmp r s ≡ Less) rows → IsFrom q r → AllByRecursion (IsFrom q) rows
from_all q r [] up from = tt
from_all q r (s ∷ rows) up from = ((λ h. from (chain r s q up.0 h)), from_all q r rows up.1 from)

pub walk_begins : (keys : ℕ) (row : Row) (rows : List Row) → IsAscending rows → IsWalkedTo keys row rows [] (first_from rows (take keys row))
walk_begins keys row [] up = record { before = []; rest = []; whole = refl; stands = refl; found = refl; from = tt }
walk_begins keys row (r ∷ rows) up =
    elim (is_lt (row_cmp r (take keys row))) as (λ b. is_lt (row_cmp r (take keys row)) ≡ b → IsWalkedTo keys row (r ∷ rows) [] (cond (not b) (Some r) (first_from rows (take keys row)))) [
      | true ↦ λ e.
          let w = walk_begins keys row rows up.1 in
          record {
            before = r ∷ w.before;
            rest = w.rest;
            whole = ap (λ (rs : List Row). r ∷ rs) w.whole;
            stands = w.stands;
            found = w.found ∙ sym (ap (λ b. cond b (r ∷ with_key keys row w.before) (with_key keys row w.before)) (below_lacks keys row r (is_less (row_cmp r (take keys row)) e)));
            from = w.from;
          }
      | false ↦ λ e.
          let here : IsFrom (take keys row) r = λ h. true≢false (sym (ap is_lt h) ∙ e) in
          record { before = []; rest = r ∷ rows; whole = refl; stands = refl; found = refl; from = (here, from_all (take keys row) r rows up.0 here) }
    ] refl
  where
    is_less : (o : Ordering) → is_lt o ≡ true → o ≡ Less
    is_less Less h = refl
    is_less Equal h = absurd (cc)
    is_less Greater h = absurd (cc)

-- ---- one step

above_past : (before rest : List Row) (r : Row) → IsAscending (before ++ r ∷ rest) → first_above (before ++ r ∷ rest) r ≡ slice_get rest 0
above_past [] rest r up = ap (λ b. cond b (Some r) (first_above rest r)) (ap is_lt (cmp_itself r)) ∙ all_pass rest up.0
  where
    all_pass : (rows : List Row) → AllByRecursion (λ s. row_cmp r s ≡ Less) rows → first_above rows r ≡ slice_get rows 0
    all_pass [] all = refl
    all_pass (x ∷ rows) all = rw all.0 refl
above_past (b ∷ before) rest r up =
    let less : row_cmp b r ≡ Less = each_in (λ s. row_cmp b s ≡ Less) r (before ++ r ∷ rest) up.0 (IsIn-append_right r before (r ∷ rest) (inl refl)) in
    ap (λ c. cond c (Some b) (first_above (before ++ r ∷ rest) r)) (ap is_lt (less_back b r less)) ∙ above_past before rest r up.1

module _ (keys : ℕ) (row : Row) (rows alike : List Row) (up : IsAscending rows) where
  -- the rest begins with the row that was found
  module _ (found : Row) (w : IsWalkedTo keys row rows alike (Some found)) where
    begun : (rest : List Row) → Some found ≡ slice_get rest 0 → (more : List Row) × (rest ≡ found ∷ more)
    begun [] e = absurd (cc)
    begun (r ∷ more) e = let same : r ≡ found = cc in (more, ap (λ (x : Row). x ∷ more) same)

    the_rest : (more : List Row) × (w.rest ≡ found ∷ more)
    the_rest = begun w.rest w.stands

    as_whole : rows ≡ w.before ++ found ∷ the_rest.0
    as_whole = w.whole ∙ ap (λ (rs : List Row). w.before ++ rs) the_rest.1

    pub walk_has : has_row rows found ≡ true
    walk_has = has_row_is rows found (subst (λ (rs : List Row). IsIn found rs) (sym as_whole) (IsIn-append_right found w.before (found ∷ the_rest.0) (inl refl)))

    with_found : has_key_of keys row found ≡ true → with_key keys row (w.before ++ found ∷ []) ≡ alike ++ found ∷ []
    with_found e =
        filter-append (has_key_of keys row) w.before (found ∷ []) ∙ (ap (λ b. with_key keys row w.before ++ cond b (found ∷ []) []) e ∙ ap (λ (rs : List Row). rs ++ found ∷ []) (sym w.found))

    pub walk_goes_on : (next : Option Row) → has_key_of keys row found ≡ true → next ≡ first_above rows found → IsWalkedTo keys row rows (alike ++ found ∷ []) next
    walk_goes_on next e is =
        let more : List Row = the_rest.0 in
        record {
          before = w.before ++ found ∷ [];
          rest = more;
          whole = as_whole ∙ sym (append_assoc w.before (found ∷ []) more);
          stands = is ∙ (ap (λ (rs : List Row). first_above rs found) as_whole ∙ above_past w.before more found (subst IsAscending as_whole up));
          found = sym (with_found e);
          from = (subst (AllByRecursion (IsFrom (take keys row))) the_rest.1 w.from).1;
        }

    -- one more has the key
    pub walk_fewer : has_key_of keys row found ≡ true → length alike + 1 ≤ length (with_key keys row rows)
    walk_fewer e =
        let all : with_key keys row rows ≡ (alike ++ found ∷ []) ++ with_key keys row the_rest.0 =
        ap (with_key keys row) (as_whole ∙ sym (append_assoc w.before (found ∷ []) the_rest.0)) ∙ (filter-append (has_key_of keys row) (w.before ++ found ∷ []) the_rest.0 ∙ ap (λ (rs : List Row). rs ++ with_key keys row the_rest.0) (with_found e)) in
        let n = ap length all ∙ length-append (alike ++ found ∷ []) (with_key keys row the_rest.0) in
        let m = length-append alike (found ∷ []) in omega (arith, n, m)

    -- what is above a row that lacks the key, and isn't below it, lacks it too
    lacks_past : (r : Row) → length r ≡ length found → IsFrom (take keys row) found → row_cmp found r ≡ Less → keys ≤ length found → has_key_of keys row found ≡ false → has_key_of keys row r ≡ false
    lacks_past r n from less wide lacks =
        elim (has_key_of keys row r) as (λ b. has_key_of keys row r ≡ b → b ≡ false) [
          | true ↦ λ e.
              let key : take keys r ≡ take keys row = same_is (take keys r) (take keys row) e in
              let d = differs found r (sym n) less in
              elim (cases_lt d.0 keys) [
                | inl short ↦
                    let r_wide : d.0 < length r = omega (arith, n, d.1) in
                    let q : Row = take keys r in
                    let q_wide : d.0 < length q = omega (arith, front_length keys r (omega (arith, wide, n)), short) in
                    let first : take d.0 q ≡ take d.0 found = fewer d.0 keys q r (omega (arith, short)) (front_twice keys r) ∙ d.2 in
                    let cell : slice_index q d.0 ≡ slice_index r d.0 = cell_of_first keys d.0 q r short q_wide r_wide (front_twice keys r) in
                    absurd (from (subst (λ (s : Row). row_cmp found s ≡ Less) key (less_by found q d.0 d.1 q_wide first (subst (λ k. slice_index found d.0 < k) (sym cell) d.3))))
                | inr past ↦
                    let same : take keys found ≡ take keys row = sym (fewer keys d.0 r found past d.2) ∙ key in
                    absurd (true≢false (sym (subst (λ (s : Row). same_row (take keys found) s ≡ true) same (itself (take keys found))) ∙ lacks))
              ]
          | false ↦ λ e. refl
        ] refl
      where
        front_length : (k : ℕ) (s : Row) → k ≤ length s → length (take k s) ≡ k
        front_length zero s le = refl
        front_length (suc k) [] le = absurd (omega (arith, le))
        front_length (suc k) (x ∷ s) le = ap suc (front_length k s (omega (arith, le)))

        front_twice : (k : ℕ) (s : Row) → take k (take k s) ≡ take k s
        front_twice zero s = refl
        front_twice (suc k) [] = refl
        front_twice (suc k) (x ∷ s) = ap (λ (t : Row). x ∷ t) (front_twice k s)

    pub walk_stops : (width : ℕ) → AllByRecursion (λ (r : Row). length r ≡ width) rows → keys ≤ width → has_key_of keys row found ≡ false → alike ≡ with_key keys row rows
    walk_stops width wide le lacks =
        let more : List Row = the_rest.0 in
        let split : AllByRecursion (λ (r : Row). length r ≡ width) (w.before ++ found ∷ more) = subst (AllByRecursion (λ (r : Row). length r ≡ width)) as_whole wide in
        let behind_all : AllByRecursion (λ (r : Row). length r ≡ width) (found ∷ more) = second (λ (r : Row). length r ≡ width) w.before (found ∷ more) split in
        let rises : IsAscending (found ∷ more) = tail_up w.before (found ∷ more) (subst IsAscending as_whole up) in
        let from : IsFrom (take keys row) found = (subst (AllByRecursion (IsFrom (take keys row))) the_rest.1 w.from).0 in
        let none : with_key keys row (found ∷ more) ≡ [] =
        ap (λ b. cond b (found ∷ with_key keys row more) (with_key keys row more)) lacks ∙ no_more more rises.0 behind_all.1 (λ r n less. lacks_past r (n ∙ sym behind_all.0) from less (omega (arith, le, behind_all.0)) lacks) in
        w.found ∙ sym (ap (with_key keys row) as_whole ∙ (filter-append (has_key_of keys row) w.before (found ∷ more) ∙ (ap (λ (rs : List Row). with_key keys row w.before ++ rs) none ∙ append-nil (with_key keys row w.before))))
      where
        second : (P : Row → Type 0) (xs ys : List Row) → AllByRecursion P (xs ++ ys) → AllByRecursion P ys
        second P [] ys h = h
        second P (x ∷ xs) ys h = second P xs ys h.1

        tail_up : (xs ys : List Row) → IsAscending (xs ++ ys) → IsAscending ys
        tail_up [] ys h = h
        tail_up (x ∷ xs) ys h = tail_up xs ys h.1

        no_more : (more : List Row) → AllByRecursion (λ s. row_cmp found s ≡ Less) more → AllByRecursion (λ (r : Row). length r ≡ width) more → ((r : Row) → length r ≡ width → row_cmp found r ≡ Less → has_key_of keys row r ≡ false) → with_key keys row more ≡ []
        no_more [] less wide h = refl
        no_more (r ∷ more) less wide h = ap (λ b. cond b (r ∷ with_key keys row more) (with_key keys row more)) (h r wide.0 less.0) ∙ no_more more less.1 wide.1 h

  pub walk_ends : IsWalkedTo keys row rows alike None → alike ≡ with_key keys row rows
  walk_ends w = w.found ∙ sym (ap (with_key keys row) (w.whole ∙ (ap (λ (rs : List Row). w.before ++ rs) (none w.rest w.stands) ∙ append-nil w.before)))
    where
      none : (rest : List Row) → None ≡ slice_get rest 0 → rest ≡ []
      none [] e = refl
      none (r ∷ rest) e = absurd (cc)

  pub walk_within : (next : Option Row) → IsWalkedTo keys row rows alike next → length alike ≤ length (with_key keys row rows)
  walk_within next w =
      let n = ap length (ap (with_key keys row) w.whole ∙ filter-append (has_key_of keys row) w.before w.rest) ∙ length-append (with_key keys row w.before) (with_key keys row w.rest) in
      let m = ap length w.found in omega (arith, n, m)

-- ---- the walk of a search

pub walk_start : (keys : ℕ) (row q : Row) (rows alike : List Row) (next : Option Row) → IsAscending rows → alike ≡ [] → q ≡ take keys row → next ≡ first_from rows q → IsWalkedTo keys row rows alike next
walk_start keys row q rows alike next up none front is =
    subst (λ (rs : List Row). IsWalkedTo keys row rows rs next) (sym none)
    (subst (λ (o : Option Row). IsWalkedTo keys row rows [] o) (sym (is ∙ ap (first_from rows) front)) (walk_begins keys row rows up))

pub none_there : (o : Option (Bor Row)) → ((row : Bor Row) → o ≡ Some row → ⊥) → option_copied o ≡ None
none_there None h = refl
none_there (Some row) h = absurd (h row refl)

-- the rows of a set are of its width
pub set_wide : (width : ℕ) (rows : List Row) → IsRowSet width rows → AllByRecursion (λ (r : Row). length r ≡ width) rows
set_wide width rows set = each_weaker (IsRow width) (λ (r : Row). length r ≡ width) (λ r h. h.is_wide) rows set.each
