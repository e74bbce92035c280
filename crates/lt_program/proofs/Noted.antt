-- What a sense gains by gaps around rows.
use Rattle.std.proofs.Common.{◌≡◌, ℕ, zero, suc, ◌+◌, ◌-◌, ◌≤◌, ◌<◌, Bool, true, false, ◌&&◌, List, [], ◌∷◌, ◌++◌, length, get_or, refl, sym, ap, subst, ◌∙◌, arith, inl, inr}
use Rattle.std.specs.Prelude.{take, slice_index, ◌⊎◌, ◌^◌, ◌==◌, nat_le, nat_lt}
use Rattle.std.specs.List.{AllByRecursion}
use Rattle.std.specs.declared.cmp.Ordering.TheVariants.{Less}
use Rattle.std.proofs.lemmas.Bool.{cases_lt, cases_Bool, leb-true, ltb-true}
use Rattle.std.proofs.lemmas.List.{take_all}
use Rattle.lt_face.specs.Lists.{IsIn}
use Rattle.lt_face.specs.Rows.{row_cmp, IsAscending}
use Rattle.lt_face.specs.State.{Row, State, Has, permuted}
use Rattle.lt_face.proofs.Membership.{IsIn-append_left, IsIn-append_right}
use Rattle.lt_query.specs.Lists.{below}
use Rattle.lt_sense.specs.declared.covering.KeptGap.{KeptGap}
use Rattle.lt_sense.specs.declared.covering.Hit.{Hit}
use Rattle.lt_sense.specs.Kept.{Sense}
use Rattle.lt_sense.specs.Sense.{lies_in}
use Rattle.lt_join.proofs.LookingUp.{permuted_own, Grows-none, Grows-both}
use Rattle.lt_join.proofs.Repair.{All_at, GapIsTight, gap_row_covered}
use Rattle.lt_join.proofs.Steps.{covers_grows}
use Rattle.lt_program.specs.Displacing.{AreOwn, IsBeside, Notes, Within, Above, Below, Between, AboveIn, BelowIn, Lacking, LackingBelow}
use Rattle.lt_program.proofs.Around.{not_both, not_itself, above_in, above_of, above_split, above_join, below_in, below_of, below_split, below_join, between_split, between_join}
use Rattle.lt_program.proofs.FirstCells.{less_by, fewer, one_more, cell_of_first, lies_of, lies_from}
use Rattle.lt_program.proofs.IndexesMade.{in_place}
use Rattle.lt_program.proofs.KeyRuns.{begins_of, begins_in, rise, goes_split, goes_join, ends_split, ends_join}

-- ---- regions

-- nothing lies in it
pub noted_none : (region : Row → Type 0) (relation width : ℕ) (sense : Sense) → ((other : Row) → IsBeside width other → region other → ⊥) → Notes region relation width sense sense
noted_none region relation width sense none = record { grows = Grows-none sense; covered = λ other beside h. absurd (none other beside h); tight = λ state free h. h }

-- the same rows
pub noted_as : (one other : Row → Type 0) (relation width : ℕ) (old new : Sense) → ((row : Row) → IsBeside width row → other row → one row) → ((row : Row) → IsBeside width row → one row → other row) → Notes one relation width old new → Notes other relation width old new
noted_as one other relation width old new there back n = record {
  grows = n.grows;
  covered = λ row beside h. n.covered row beside (there row beside h);
  tight = λ state free h. n.tight state (λ row has. let f = free row has in (f.0, λ k. f.1 (back row f.0 k))) h;
}

-- one, and then another
pub noted_then : (one other : Row → Type 0) (relation width : ℕ) (old mid new : Sense) → Notes one relation width old mid → Notes other relation width mid new → Notes (λ row. one row ⊎ other row) relation width old new
noted_then one other relation width old mid new n m = record {
  grows = Grows-both old mid new n.grows m.grows;
  covered = λ row beside h. elim h [ inl k ↦ covers_grows mid new m.grows relation row (n.covered row beside k) | inr k ↦ m.covered row beside k ];
  tight = λ state free h. m.tight state (λ row has. let f = free row has in (f.0, λ k. f.1 (inr k))) (n.tight state (λ row has. let f = free row has in (f.0, λ k. f.1 (inl k))) h);
}

-- ---- one gap

lies_nowhere : (prefix : Row) (lo hi : ℕ) (row : Row) → hi ≤ lo → lies_in prefix lo hi row ≡ true → ⊥
lies_nowhere prefix lo hi [] le h = absurd (cc)
lies_nowhere [] lo hi (x ∷ row) le h = let p = both (nat_le lo x) (nat_lt x hi) h in let a = leb-true lo x p.0 in let b = ltb-true x hi p.1 in omega (arith, a, b, le)
  where
    both : (a b : Bool) → (a && b) ≡ true → (a ≡ true) × (b ≡ true)
    both true true h = (refl, refl)
    both true false h = absurd (cc)
    both false b h = absurd (cc)
lies_nowhere (p ∷ prefix) lo hi (x ∷ row) le h = lies_nowhere prefix lo hi row le (second (p == x) (lies_in prefix lo hi row) h)
  where
    second : (a b : Bool) → (a && b) ≡ true → b ≡ true
    second true b h = h
    second false b h = absurd (cc)

own_cells : (columns : List ℕ) (row : Row) → AreOwn columns → length row ≡ length columns → permuted columns row ≡ row
own_cells columns row own n = ap (λ (cs : List ℕ). permuted cs row) (own.order ∙ ap below (sym n)) ∙ permuted_own row

pub noted_gap : (relation lo hi : ℕ) (columns : List ℕ) (prefix : Row) (old new : Sense) → AreOwn columns
    → (lo < hi → new.gaps ≡ old.gaps ++ record { relation = relation; columns = columns; prefix = prefix; lo = lo; hi = hi } ∷ []) → (hi ≤ lo → new.gaps ≡ old.gaps) → new.hits ≡ old.hits
    → Notes (Within prefix lo hi) relation (length columns) old new
noted_gap relation lo hi columns prefix old new own kept empty hits =
    elim (cases_lt lo hi) [
      | inl lt ↦ some (kept lt)
      | inr le ↦ record {
        grows = record { gaps = λ g h. subst (IsIn g) (sym (empty le)) h; hits = λ h k. subst (IsIn h) (sym hits) k };
        covered = λ row beside h. absurd (lies_nowhere prefix lo hi row le h);
        tight = λ state free h. record { gaps = subst (AllByRecursion (GapIsTight state)) (sym (empty le)) h.gaps; hits = subst (AllByRecursion (λ (h : Hit). Has state h.relation h.row)) (sym hits) h.hits };
      }
    ]
  where
    gap : KeptGap
    gap = record { relation = relation; columns = columns; prefix = prefix; lo = lo; hi = hi }

    all_push : {X : Type 0} (P : X → Type 0) (xs : List X) (x : X) → AllByRecursion P xs → P x → AllByRecursion P (xs ++ x ∷ [])
    all_push P [] x h k = (k, tt)
    all_push P (y ∷ xs) x h k = (h.0, all_push P xs x h.1 k)

    free_of : (state : State) → ((other : Row) → Has state relation other → IsBeside (length columns) other × (Within prefix lo hi other → ⊥)) → GapIsTight state gap
    free_of state free other has =
        let f = free other has in
        elim (cases_Bool (lies_in prefix lo hi (permuted columns other))) [ inl inside ↦ absurd (f.1 (sym (ap (lies_in prefix lo hi) (own_cells columns other own f.0.0)) ∙ inside)) | inr e ↦ e ]

    some : new.gaps ≡ old.gaps ++ gap ∷ [] → Notes (Within prefix lo hi) relation (length columns) old new
    some more = record {
      grows = record { gaps = λ g h. subst (IsIn g) (sym more) (IsIn-append_left g old.gaps (gap ∷ []) h); hits = λ h k. subst (IsIn h) (sym hits) k };
      covered = λ row beside h.
          gap_row_covered new gap row (subst (IsIn gap) (sym more) (IsIn-append_right gap old.gaps (gap ∷ []) (inl refl))) (ap (lies_in prefix lo hi) (own_cells columns row own beside.0) ∙ h);
      tight = λ state free h. record {
        gaps = subst (AllByRecursion (GapIsTight state)) (sym more) (all_push (GapIsTight state) old.gaps gap h.gaps (free_of state free));
        hits = subst (AllByRecursion (λ (h : Hit). Has state h.relation h.row)) (sym hits) h.hits;
      };
    }

-- ---- above and below a row, column by column

pub above_none : (relation width from : ℕ) (row : Row) (sense : Sense) → Notes (AboveIn row from from) relation width sense sense
above_none relation width from row sense = noted_none (AboveIn row from from) relation width sense (λ other beside h. omega (arith, h.1, h.2))

pub above_more : (relation from i : ℕ) (columns : List ℕ) (row : Row) (old mid new : Sense) → from ≤ i → i < length row → length row ≡ length columns → Notes (AboveIn row from i) relation (length columns) old mid
    → Notes (Within (take i row) (slice_index row i + 1) (2 ^ 128 - 1)) relation (length columns) mid new → Notes (AboveIn row from (i + 1)) relation (length columns) old new
above_more relation from i columns row old mid new le lt wide n m =
    let next : i + 1 ≡ suc i = omega arith in
    subst (λ k. Notes (AboveIn row from k) relation (length columns) old new) (sym next)
    (noted_as _ (AboveIn row from (suc i)) relation (length columns) old new (λ other beside h. above_split row other from i lt (beside.0 ∙ sym wide, beside.1) h) (λ other beside h. above_join row other from i le lt h)
    (noted_then (AboveIn row from i) (Within (take i row) (slice_index row i + 1) (2 ^ 128 - 1)) relation (length columns) old mid new n m))

pub above_all : (relation from to : ℕ) (columns : List ℕ) (row : Row) (old new : Sense) → length row ≡ length columns → to ≡ length row → Notes (AboveIn row from to) relation (length columns) old new → Notes (Above row from) relation (length columns) old new
above_all relation from to columns row old new wide is n =
    noted_as (AboveIn row from to) (Above row from) relation (length columns) old new
    (λ other beside h. subst (λ k. AboveIn row from k other) (sym is) (above_in row other from (beside.0 ∙ sym wide) h))
    (λ other beside h. above_of row other from (beside.0 ∙ sym wide) (subst (λ k. AboveIn row from k other) is h)) n

pub below_none : (relation width from : ℕ) (row : Row) (sense : Sense) → Notes (BelowIn row from from) relation width sense sense
below_none relation width from row sense = noted_none (BelowIn row from from) relation width sense (λ other beside h. omega (arith, h.1, h.2))

pub below_more : (relation from i : ℕ) (columns : List ℕ) (row : Row) (old mid new : Sense) → from ≤ i → i < length row → length row ≡ length columns → Notes (BelowIn row from i) relation (length columns) old mid
    → Notes (Within (take i row) 0 (slice_index row i)) relation (length columns) mid new → Notes (BelowIn row from (i + 1)) relation (length columns) old new
below_more relation from i columns row old mid new le lt wide n m =
    let next : i + 1 ≡ suc i = omega arith in
    subst (λ k. Notes (BelowIn row from k) relation (length columns) old new) (sym next)
    (noted_as _ (BelowIn row from (suc i)) relation (length columns) old new (λ other beside h. below_split row other from i lt (beside.0 ∙ sym wide, beside.1) h) (λ other beside h. below_join row other from i le lt h)
    (noted_then (BelowIn row from i) (Within (take i row) 0 (slice_index row i)) relation (length columns) old mid new n m))

pub below_all_in : (relation from to : ℕ) (columns : List ℕ) (row : Row) (old new : Sense) → length row ≡ length columns → to ≡ length row → Notes (BelowIn row from to) relation (length columns) old new → Notes (Below row from) relation (length columns) old new
below_all_in relation from to columns row old new wide is n =
    noted_as (BelowIn row from to) (Below row from) relation (length columns) old new
    (λ other beside h. subst (λ k. BelowIn row from k other) (sym is) (below_in row other from (beside.0 ∙ sym wide) h))
    (λ other beside h. below_of row other from (beside.0 ∙ sym wide) (subst (λ k. BelowIn row from k other) is h)) n

-- ---- between two rows

pub noted_between : (relation d : ℕ) (columns : List ℕ) (low high prefix : Row) (lo hi : ℕ) (s0 s1 s2 s3 : Sense) → length low ≡ length columns → length high ≡ length columns → d < length low → take d low ≡ take d high → slice_index low d < slice_index high d
    → prefix ≡ take d low → lo ≡ slice_index low d → hi ≡ slice_index high d
    → Notes (Above low (d + 1)) relation (length columns) s0 s1 → Notes (Within prefix (lo + 1) hi) relation (length columns) s1 s2 → Notes (Below high (d + 1)) relation (length columns) s2 s3 → Notes (Between low high) relation (length columns) s0 s3
noted_between relation d columns low high prefix lo hi s0 s1 s2 s3 wide_low wide_high lt same rise is_prefix is_lo is_hi above gap below_high =
    let next : d + 1 ≡ suc d = omega arith in
    let a : Notes (Above low (suc d)) relation (length columns) s0 s1 = subst (λ k. Notes (Above low k) relation (length columns) s0 s1) next above in
    let b : Notes (Below high (suc d)) relation (length columns) s2 s3 = subst (λ k. Notes (Below high k) relation (length columns) s2 s3) next below_high in
    let g : Notes (Within (take d low) (slice_index low d + 1) (slice_index high d)) relation (length columns) s1 s2 =
    subst (λ (p : Row). Notes (Within p (slice_index low d + 1) (slice_index high d)) relation (length columns) s1 s2) is_prefix
    (subst (λ k. Notes (Within prefix (k + 1) (slice_index high d)) relation (length columns) s1 s2) is_lo (subst (λ k. Notes (Within prefix (lo + 1) k) relation (length columns) s1 s2) is_hi gap)) in
    let n : length high ≡ length low = wide_high ∙ sym wide_low in
    noted_as _ (Between low high) relation (length columns) s0 s3
    (λ other beside h. between_split low high d n lt same rise other (beside.0 ∙ sym wide_low) h) (λ other beside h. between_join low high d n lt same rise other (beside.0 ∙ sym wide_low) h)
    (noted_then (Above low (suc d)) (λ other. (lies_in (take d low) (slice_index low d + 1) (slice_index high d) other ≡ true) ⊎ Below high (suc d) other) relation (length columns) s0 s1 s3 a
    (noted_then (Within (take d low) (slice_index low d + 1) (slice_index high d)) (Below high (suc d)) relation (length columns) s1 s2 s3 g b))

-- ---- the first cell that differs

pub same_more : (i : ℕ) (low high : Row) → length high ≡ length low → i < length low → take i low ≡ take i high → slice_index low i ≡ slice_index high i → take (i + 1) low ≡ take (i + 1) high
same_more i low high n lt same e = let next : i + 1 ≡ suc i = omega arith in subst (λ k. take k low ≡ take k high) (sym next) (one_more i low high lt (omega (arith, n, lt)) same e)

pub rises_here : (i : ℕ) (low high : Row) → length high ≡ length low → i < length low → take i low ≡ take i high → row_cmp low high ≡ Less → (slice_index low i ≡ slice_index high i → ⊥) → slice_index low i < slice_index high i
rises_here i low high n lt same less differ =
    elim (cases_lt (slice_index low i) (slice_index high i)) [
      | inl up ↦ up
      | inr le ↦
          elim (cases_lt (slice_index high i) (slice_index low i)) [
            | inl down ↦ absurd (not_both low high less (less_by high low i (omega (arith, n, lt)) lt same down))
            | inr ge ↦ absurd (differ (omega (arith, le, ge)))
          ]
    ]

pub rises_nowhere : (i : ℕ) (low high : Row) → length high ≡ length low → length low ≤ i → take i low ≡ take i high → row_cmp low high ≡ Less → ⊥
rises_nowhere i low high n le same less =
    let whole : low ≡ high = sym (take_all i low le) ∙ (same ∙ take_all i high (omega (arith, le, n))) in
    not_itself high (subst (λ (r : Row). row_cmp r high ≡ Less) whole less)

-- ---- no row with the key

pub noted_key : (relation keys : ℕ) (columns : List ℕ) (row prefix : Row) (cell : ℕ) (old new : Sense) → length row ≡ length columns → 1 ≤ keys → keys ≤ length row → prefix ≡ take (keys - 1) row → cell ≡ slice_index row (keys - 1)
    → Notes (Within prefix cell (cell + 1)) relation (length columns) old new → Notes (λ other. take keys other ≡ take keys row) relation (length columns) old new
noted_key relation keys columns row prefix cell old new wide some within is_prefix is_cell n =
    let k : ℕ = keys - 1 in
    let next : suc k ≡ keys = omega (arith, some) in
    let lt : k < length row = omega (arith, within, next) in
    let g : Notes (Within (take k row) (slice_index row k) (slice_index row k + 1)) relation (length columns) old new =
    subst (λ c. Notes (Within (take k row) c (c + 1)) relation (length columns) old new) is_cell (subst (λ (p : Row). Notes (Within p cell (cell + 1)) relation (length columns) old new) is_prefix n) in
    noted_as (Within (take k row) (slice_index row k) (slice_index row k + 1)) (λ other. take keys other ≡ take keys row) relation (length columns) old new
    (λ other beside h.
    let wide_other : k < length other = omega (arith, beside.0, wide, lt) in
    let cell_is : slice_index other k ≡ slice_index row k = cell_of_first keys k other row (omega (arith, next)) wide_other lt h in
    lies_of k (slice_index row k) (slice_index row k + 1) row other lt wide_other (fewer k keys other row (omega (arith, next)) h) (omega (arith, cell_is)) (omega (arith, cell_is)))
    (λ other beside h.
    let p = lies_from k (slice_index row k) (slice_index row k + 1) row other lt h in
    let cell_is : slice_index other k ≡ slice_index row k = omega (arith, p.1, p.2) in
    subst (λ m. take m other ≡ take m row) next (one_more k other row (omega (arith, beside.0, wide, lt)) lt p.0 cell_is)) g

-- ---- around the rows with the key

-- so far below the row before a place
pub record AreNotedTo (keys : ℕ) (row : Row) (alike : List Row) (i relation width : ℕ) (old new : Sense) : Type 0 where
  pub last : Row
  pub is : last ≡ get_or alike (i - 1) last
  pub some : 1 ≤ i
  pub within : i ≤ length alike
  pub notes : Notes (LackingBelow keys row alike last) relation width old new

default : (xs : List Row) (n : ℕ) (d e : Row) → n < length xs → get_or xs n d ≡ get_or xs n e
default [] n d e h = absurd (omega (arith, h))
default (x ∷ xs) zero d e h = refl
default (x ∷ xs) (suc n) d e h = default xs n d e (omega (arith, h))

module _ (keys relation width : ℕ) (row : Row) (alike : List Row) (up : IsAscending alike) (key : AllByRecursion (λ (other : Row). take keys other ≡ take keys row) alike) (wide : AllByRecursion (IsBeside width) alike) where
  key_at : (i : ℕ) (at : Row) → i < length alike → at ≡ get_or alike i at → take keys at ≡ take keys row
  key_at i at lt is = All_at (λ (other : Row). take keys other ≡ take keys row) alike at key (in_place alike i at lt is)

  pub beside_at : (i : ℕ) (at : Row) → i < length alike → at ≡ get_or alike i at → IsBeside width at
  beside_at i at lt is = All_at (IsBeside width) alike at wide (in_place alike i at lt is)

  pub around_first : (first : Row) (old new : Sense) → 0 < length alike → first ≡ get_or alike 0 first → Notes (Below first keys) relation width old new → AreNotedTo keys row alike 1 relation width old new
  around_first first old new some is n = record {
    last = first;
    is = is;
    some = omega arith;
    within = omega (arith, some);
    notes = noted_as (Below first keys) (LackingBelow keys row alike first) relation width old new (λ other beside h. begins_of keys row alike up first other is (key_at 0 first some is) h) (λ other beside h. begins_in keys row alike up first other is (key_at 0 first some is) h) n;
  }

  pub rise_at : (i : ℕ) (low high : Row) → 1 ≤ i → i < length alike → low ≡ get_or alike (i - 1) low → high ≡ get_or alike i high → row_cmp low high ≡ Less
  rise_at i low high some lt is_low is_high =
      let next : suc (i - 1) ≡ i = omega (arith, some) in
      rise keys row alike up (i - 1) low high (omega (arith, next, lt)) is_low (subst (λ k. high ≡ get_or alike k high) (sym next) is_high)

  pub around_next : (i : ℕ) (low high : Row) (old mid new : Sense) → i < length alike → low ≡ get_or alike (i - 1) low → high ≡ get_or alike i high → AreNotedTo keys row alike i relation width old mid → Notes (Between low high) relation width mid new
      → AreNotedTo keys row alike (i + 1) relation width old new
  around_next i low high old mid new lt is_low is_high far n =
      let next : suc (i - 1) ≡ i = omega (arith, far.some) in
      let back : i + 1 - 1 ≡ i = omega arith in
      let same : far.last ≡ low = far.is ∙ (default alike (i - 1) far.last low (omega (arith, lt, next)) ∙ sym is_low) in
      let so_far : Notes (LackingBelow keys row alike low) relation width old mid = subst (λ (r : Row). Notes (LackingBelow keys row alike r) relation width old mid) same far.notes in
      let there : suc (i - 1) < length alike = omega (arith, next, lt) in
      let at : high ≡ get_or alike (suc (i - 1)) high = subst (λ k. high ≡ get_or alike k high) (sym next) is_high in
      let w_low : length low ≡ width = (beside_at (i - 1) low (omega (arith, lt, next)) is_low).0 in
      let w_high : length high ≡ width = (beside_at i high lt is_high).0 in
      record {
        last = high;
        is = subst (λ k. high ≡ get_or alike k high) (sym back) is_high;
        some = omega arith;
        within = omega (arith, lt);
        notes = noted_as _ (LackingBelow keys row alike high) relation width old new (λ other beside h. goes_split keys row alike up (i - 1) low high there is_low at other h)
            (λ other beside h.
            goes_join keys row alike up (i - 1) low high there is_low at other (beside.0 ∙ sym w_low) (w_high ∙ sym w_low) (key_at (i - 1) low (omega (arith, lt, next)) is_low) (key_at i high lt is_high) h)
            (noted_then (LackingBelow keys row alike low) (Between low high) relation width old mid new so_far n);
      }

  pub around_last : (i at : ℕ) (last : Row) (old mid new : Sense) → length alike ≤ i → at ≡ length alike - 1 → last ≡ get_or alike at last → AreNotedTo keys row alike i relation width old mid → Notes (Above last keys) relation width mid new → Notes (Lacking keys row alike) relation width old new
  around_last i at last old mid new le is_at is far n =
      let whole : i ≡ length alike = omega (arith, le, far.within) in
      let place : i - 1 ≡ at = omega (arith, whole, is_at) in
      let lt : at < length alike = omega (arith, whole, is_at, far.some) in
      let end : suc at ≡ length alike = omega (arith, whole, is_at, far.some) in
      let same : far.last ≡ last = far.is ∙ (ap (λ k. get_or alike k far.last) place ∙ (default alike at far.last last lt ∙ sym is)) in
      let so_far : Notes (LackingBelow keys row alike last) relation width old mid = subst (λ (r : Row). Notes (LackingBelow keys row alike r) relation width old mid) same far.notes in
      noted_as _ (Lacking keys row alike) relation width old new (λ other beside h. ends_split keys row alike up at last end is other (key_at at last lt is) h) (λ other beside h. ends_join keys row alike up at last end is other (key_at at last lt is) h)
      (noted_then (LackingBelow keys row alike last) (Above last keys) relation width old mid new so_far n)

-- without such rows
pub around_none : (keys relation width : ℕ) (row : Row) (alike : List Row) (old new : Sense) → length alike ≡ 0 → Notes (λ other. take keys other ≡ take keys row) relation width old new → Notes (Lacking keys row alike) relation width old new
around_none keys relation width row [] old new e n = noted_as (λ other. take keys other ≡ take keys row) (Lacking keys row []) relation width old new (λ other beside h. h.0) (λ other beside h. (h, λ there. there)) n
around_none keys relation width row (r ∷ alike) old new e n = absurd (omega (arith, e))

-- ---- a step of a loop over columns

pub above_more_by : (relation from i : ℕ) (columns : List ℕ) (row prefix : Row) (cell : ℕ) (old mid new : Sense) → from ≤ i → i < length row → length row ≡ length columns → prefix ≡ take i row → cell ≡ slice_index row i → Notes (AboveIn row from i) relation (length columns) old mid
    → Notes (Within prefix (cell + 1) (2 ^ 128 - 1)) relation (length columns) mid new → Notes (AboveIn row from (i + 1)) relation (length columns) old new
above_more_by relation from i columns row prefix cell old mid new le lt wide is_prefix is_cell n m =
    above_more relation from i columns row old mid new le lt wide n
    (subst (λ c. Notes (Within (take i row) (c + 1) (2 ^ 128 - 1)) relation (length columns) mid new) is_cell (subst (λ (p : Row). Notes (Within p (cell + 1) (2 ^ 128 - 1)) relation (length columns) mid new) is_prefix m))

pub below_more_by : (relation from i : ℕ) (columns : List ℕ) (row prefix : Row) (cell : ℕ) (old mid new : Sense) → from ≤ i → i < length row → length row ≡ length columns → prefix ≡ take i row → cell ≡ slice_index row i → Notes (BelowIn row from i) relation (length columns) old mid
    → Notes (Within prefix 0 cell) relation (length columns) mid new → Notes (BelowIn row from (i + 1)) relation (length columns) old new
below_more_by relation from i columns row prefix cell old mid new le lt wide is_prefix is_cell n m =
    below_more relation from i columns row old mid new le lt wide n
    (subst (λ c. Notes (Within (take i row) 0 c) relation (length columns) mid new) is_cell (subst (λ (p : Row). Notes (Within p 0 cell) relation (length columns) mid new) is_prefix m))
