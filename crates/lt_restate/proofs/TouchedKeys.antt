-- The keys that the changes between two states touch, as a list.
use Rattle.std.proofs.Common.{◌≡◌, ℕ, Bool, true, false, List, [], Option, Some, None, refl, sym, ap, ◌∙◌, inl, inr, subst}
use Rattle.std.specs.Prelude.{if◌then◌else◌}
use Rattle.std.specs.List.{list_any, flat_map}
use Rattle.std.specs.Option.{option_to_list}
use Rattle.std.proofs.lemmas.Bool.{cases_Bool, or_left}
use Rattle.lt_face.specs.Lists.{IsIn}
use Rattle.lt_face.specs.State.{Row, State, permuted}
use Rattle.lt_face.proofs.Membership.{IsIn-append_left, IsIn-append_right, IsIn-append_cases, IsIn-map, IsIn-map_from, IsIn-flat_map, IsIn-flat_map_from}
use Rattle.lt_trie.specs.Under.{next_cell}
use Rattle.lt_base.specs.Changed.{differ_on}
use Rattle.lt_base.proofs.Apart.{alike}
use Rattle.lt_sense.specs.declared.covering.KeptGap.{KeptGap}
use Rattle.lt_sense.specs.declared.covering.Hit.{Hit}
use Rattle.lt_sense.specs.Kept.{Sense}
use Rattle.lt_sense.specs.Sense.{covers, gap_covers, hit_covers}
use Rattle.lt_join.specs.Slices.{Slice}
use Rattle.lt_join.specs.Mended.{LiesAt, Touches, HaveTouched}
use Rattle.lt_join.specs.MendedKeys.{AreTouched}
use Rattle.lt_join.specs.Sliced.{slice_keys, united}
use Rattle.lt_join.specs.Walked.{Grows}
use Rattle.lt_join.proofs.Repair.{list_any_of}
use Rattle.lt_join.proofs.Steps.{covers_grows}
use Rattle.lt_program.specs.Part.{Part}
use Rattle.lt_program.specs.Tally.{sense_of}
use Rattle.lt_restate.specs.Covered.{AreCoveredChanges}
use Rattle.lt_restate.specs.Changes.{changes_between, cells_in, slices_with, keys_at, touched_on}
use Rattle.lt_restate.proofs.ChangeLists.{in_filter, from_filter, change_there, change_differs}
use Rattle.lt_restate.proofs.Rising.{order_rises, order_has, order_from, same_rising}

cell_there : (gap : KeptGap) (relation : ℕ) (row : Row) (k : ℕ) → LiesAt gap relation row k → IsIn k (cells_in (relation, row) gap)
cell_there gap relation row k lies =
    subst (λ b. IsIn k (if b then option_to_list (next_cell gap.prefix (permuted gap.columns row)) else [])) (sym lies.0) (subst (λ (o : Option ℕ). IsIn k (option_to_list o)) (sym lies.1) (inl refl))

cell_from : (gap : KeptGap) (relation : ℕ) (row : Row) (k : ℕ) → IsIn k (cells_in (relation, row) gap) → LiesAt gap relation row k
cell_from gap relation row k h = go (gap_covers gap relation row) (next_cell gap.prefix (permuted gap.columns row)) refl refl h
  where
    go : (b : Bool) (o : Option ℕ) → gap_covers gap relation row ≡ b → next_cell gap.prefix (permuted gap.columns row) ≡ o → IsIn k (if b then option_to_list (next_cell gap.prefix (permuted gap.columns row)) else []) → LiesAt gap relation row k
    go false o e f there = absurd there
    go true None e f there = absurd (subst (λ (x : Option ℕ). IsIn k (option_to_list x)) f there)
    go true (Some c) e f there = elim (subst (λ (x : Option ℕ). IsIn k (option_to_list x)) f there) [ inl same ↦ (e, f ∙ ap Some same) | inr r ↦ absurd r ]

-- whether the slice covers the row
abbrev has_it : ℕ → Row → Slice → Bool
has_it relation row slice = covers slice.sense relation row

abbrev gaps_of : Slice → List KeptGap
gaps_of slice = slice.sense.gaps

abbrev hits_of : Slice → List Hit
hits_of slice = slice.sense.hits

grows_slice : (root : Sense) (slices : List Slice) (slice : Slice) → IsIn slice slices → Grows slice.sense (united root slices)
grows_slice root slices slice at = record {
  gaps = λ gap h. IsIn-append_right gap root.gaps (flat_map gaps_of slices) (IsIn-flat_map gaps_of slice gap slices at h);
  hits = λ hit h. IsIn-append_right hit root.hits (flat_map hits_of slices) (IsIn-flat_map hits_of slice hit slices at h);
}

module _ (part : Part) (relation : ℕ) (row : Row) (k : ℕ) where
  keys_there : Touches part.sense part.slices relation row k → IsIn k (keys_at part (relation, row))
  keys_there h = elim h [
    | inl of_slice ↦
        IsIn-append_left k (slice_keys (slices_with (relation, row) part.slices)) (flat_map (cells_in (relation, row)) part.sense.gaps)
        (subst (λ n. IsIn n (slice_keys (slices_with (relation, row) part.slices))) of_slice.2
        (IsIn-map (λ (slice : Slice). slice.key) of_slice.0 (slices_with (relation, row) part.slices) (in_filter (has_it relation row) of_slice.0 part.slices of_slice.1 of_slice.3)))
    | inr of_gap ↦
        IsIn-append_right k (slice_keys (slices_with (relation, row) part.slices)) (flat_map (cells_in (relation, row)) part.sense.gaps)
        (IsIn-flat_map (cells_in (relation, row)) of_gap.0 k part.sense.gaps of_gap.1 (cell_there of_gap.0 relation row k of_gap.2))
  ]

  keys_from : IsIn k (keys_at part (relation, row)) → Touches part.sense part.slices relation row k
  keys_from h = elim (IsIn-append_cases k (slice_keys (slices_with (relation, row) part.slices)) (flat_map (cells_in (relation, row)) part.sense.gaps) h) [
    | inl of_slice ↦
        let found = IsIn-map_from (λ (slice : Slice). slice.key) k (slices_with (relation, row) part.slices) of_slice in
        let there = from_filter (has_it relation row) found.0 part.slices found.1 in
        inl (found.0, there.0, found.2, there.1)
    | inr of_gap ↦
        let found = IsIn-flat_map_from (cells_in (relation, row)) k part.sense.gaps of_gap in
        inr (found.0, found.1, cell_from found.0 relation row k found.2)
  ]

module _ (part : Part) (s t : State) where
  touched_there : (relation : ℕ) (row : Row) (k : ℕ) → differ_on s t relation row ≡ true → Touches part.sense part.slices relation row k → IsIn k (touched_on part s t)
  touched_there relation row k differs touches =
      order_has k (flat_map (keys_at part) (changes_between s t)) (IsIn-flat_map (keys_at part) (relation, row) k (changes_between s t) (change_there s t relation row differs) (keys_there part relation row k touches))

  touched_is : (k : ℕ) → IsIn k (touched_on part s t) → (relation : ℕ) × (row : Row) × (differ_on s t relation row ≡ true) × Touches part.sense part.slices relation row k
  touched_is k h =
      let found = IsIn-flat_map_from (keys_at part) k (changes_between s t) (order_from k (flat_map (keys_at part) (changes_between s t)) h) in
      (found.0.0, found.0.1, change_differs s t found.0.0 found.0.1 found.1, keys_from part found.0.0 found.0.1 k found.2)

  -- all of them are there
  pub have_touched : HaveTouched (touched_on part s t) part.sense part.slices s t
  have_touched relation row k differ touches = elim (cases_Bool (differ_on s t relation row)) [
    | inl e ↦ touched_there relation row k e touches
    | inr e ↦ absurd (differ (alike s t relation row e))
  ]

  -- a row that touches a key is covered
  touching_is_covered : (relation : ℕ) (row : Row) (k : ℕ) → Touches part.sense part.slices relation row k → covers (sense_of part) relation row ≡ true
  touching_is_covered relation row k h = elim h [
    | inl of_slice ↦ covers_grows of_slice.0.sense (sense_of part) (grows_slice part.sense part.slices of_slice.0 of_slice.1) relation row of_slice.3
    | inr of_gap ↦
        or_left (list_any (λ gap. gap_covers gap relation row) (sense_of part).gaps) (list_any (λ hit. hit_covers hit relation row) (sense_of part).hits)
        (list_any_of (λ (gap : KeptGap). gap_covers gap relation row) of_gap.0 (sense_of part).gaps (IsIn-append_left of_gap.0 part.sense.gaps (flat_map gaps_of part.slices) of_gap.1) of_gap.2.0)
  ]

  -- the ascending keys that the covered changes touch are these
  pub keys_are : (changes : List (ℕ × Row)) (keys : List ℕ) → AreTouched part.sense part.slices changes keys → AreCoveredChanges (sense_of part) s t changes → keys ≡ touched_on part s t
  keys_are changes keys are covered = same_rising keys (touched_on part s t) are.ascending (order_rises (flat_map (keys_at part) (changes_between s t))) forth back
    where
      forth : (k : ℕ) → IsIn k keys → IsIn k (touched_on part s t)
      forth k h = let found = are.no_other k h in touched_there found.0.0 found.0.1 k (covered.each found.0 found.1).differs found.2

      back : (k : ℕ) → IsIn k (touched_on part s t) → IsIn k keys
      back k h =
          let found = touched_is k h in
          are.all k ((found.0, found.1), covered.all (found.0, found.1) (record { covered = touching_is_covered found.0 found.1 k found.3; differs = found.2 }), found.3)
