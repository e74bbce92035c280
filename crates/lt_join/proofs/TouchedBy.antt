-- Which keys a row touches, as a sense by key tells it and as slices do.
use Rattle.std.specs.Prelude.{◌≡◌, ℕ, Bool, true, ◌==◌, List, [], ◌∷◌, Some}
use Rattle.std.proofs.Common.{sym, ap, ◌∙◌, subst, inl, inr}
use Rattle.std.proofs.lemmas.Bool.{and_parts, and_from, or_cases, or_left, or_right, eqb-true, eq-eqb}
use Rattle.lt_face.specs.State.{Row, permuted}
use Rattle.lt_face.proofs.Membership.{IsIn-map, IsIn-map_from}
use Rattle.lt_trie.specs.Under.{next_cell}
use Rattle.lt_sense.specs.declared.covering.KeptGap.{KeptGap}
use Rattle.lt_sense.specs.Clipped.{begins}
use Rattle.lt_sense.specs.Kept.{Sense}
use Rattle.lt_sense.specs.Sense.{covers, gap_covers}
use Rattle.lt_sense.specs.ByKey.{GainsJust, KeySense, gap_at, have_at, slice_at, slices_at, touches}
use Rattle.lt_join.specs.Mended.{Touches}
use Rattle.lt_join.specs.Sliced.{AreRootGaps}
use Rattle.lt_join.specs.Slices.{KeyRows, Slice, slice_of, slices_of}
use Rattle.lt_join.proofs.Repair.{All_at, list_any_from, list_any_of}

first_is : (key : ℕ) (cells : Row) → begins key cells ≡ true → next_cell [] cells ≡ Some key
first_is key [] h = cc
first_is key (c ∷ cells) h = ap (λ x. Some x) (sym (eqb-true key c h))

first_from : (key : ℕ) (cells : Row) → next_cell [] cells ≡ Some key → begins key cells ≡ true
first_from key [] h = cc
first_from key (c ∷ cells) h = let e : c ≡ key = cc in eq-eqb key c (sym e)

module _ (root : Sense) (all : List KeyRows) (senses : List KeySense) (are : AreRootGaps root) (key relation : ℕ) (row : Row) where
  abbrev gap_is : KeptGap → Bool
  gap_is gap = gap_at key gap relation row

  abbrev slice_is : KeySense → Bool
  slice_is s = slice_at key s relation row

  pub touches_to : touches (record { root = root; slices = senses }) key relation row ≡ true → Touches root (slices_of all senses) relation row key
  touches_to h =
      elim (or_cases (have_at key root.gaps relation row) (slices_at key senses relation row) h) [
        | inl by_gap ↦
            let f = list_any_from gap_is root.gaps by_gap in
            let parts = and_parts (gap_covers f.0 relation row) (begins key (permuted f.0.columns row)) f.2 in
            let none : f.0.prefix ≡ [] = All_at (λ (gap : KeptGap). gap.prefix ≡ []) root.gaps f.0 are f.1 in
            inr (f.0, f.1, (parts.0, subst (λ prefix. next_cell prefix (permuted f.0.columns row) ≡ Some key) (sym none) (first_is key (permuted f.0.columns row) parts.1)))
        | inr by_slice ↦
            let f = list_any_from slice_is senses by_slice in
            let parts = and_parts (f.0.key == key) (covers f.0.sense relation row) f.2 in
            inl (slice_of all f.0, IsIn-map (slice_of all) f.0 senses f.1, eqb-true f.0.key key parts.0, parts.1)
      ]

  pub touches_from : Touches root (slices_of all senses) relation row key → touches (record { root = root; slices = senses }) key relation row ≡ true
  touches_from h =
      elim h [
        | inl s ↦
            let f = IsIn-map_from (slice_of all) s.0 senses s.1 in
            let same : f.0.key ≡ key = ap (λ (x : Slice). x.key) f.2 ∙ s.2 in
            let covered : covers f.0.sense relation row ≡ true = ap (λ (x : Slice). covers x.sense relation row) f.2 ∙ s.3 in
            or_right (have_at key root.gaps relation row) (slices_at key senses relation row)
            (list_any_of slice_is f.0 senses f.1 (and_from (f.0.key == key) (covers f.0.sense relation row) (eq-eqb f.0.key key same) covered))
        | inr g ↦
            let none : g.0.prefix ≡ [] = All_at (λ (gap : KeptGap). gap.prefix ≡ []) root.gaps g.0 are g.1 in
            let first = first_from key (permuted g.0.columns row) (subst (λ prefix. next_cell prefix (permuted g.0.columns row) ≡ Some key) none g.2.1) in
            or_left (have_at key root.gaps relation row) (slices_at key senses relation row)
            (list_any_of gap_is g.0 root.gaps g.1 (and_from (gap_covers g.0 relation row) (begins key (permuted g.0.columns row)) g.2.0 first))
      ]

-- what comes is told by another word that says the same
pub gains_alike : (p q : ℕ → Type 0) (old new : List ℕ) → ((k : ℕ) → p k → q k) → ((k : ℕ) → q k → p k) → GainsJust p old new → GainsJust q old new
gains_alike p q old new to from h = record {
  stay = h.stay;
  come = λ k told. h.come k (from k told);
  no_other = λ k at. elim (h.no_other k at) [ inl before ↦ inl before | inr told ↦ inr (to k told) ];
}
