-- What of a sense covers a row, by the row and the state.
use Rattle.std.proofs.Common.{◌≡◌, ℕ, ◌+◌, true, false, [], ◌∷◌, ◌++◌, length, refl, sym, ap, ◌∙◌, inl, inr, subst, arith}
use mathlib.Core.Bool.{true≢false}
use Rattle.std.specs.Prelude.{◌==◌, nat_le, nat_lt}
use Rattle.std.proofs.lemmas.Bool.{cases_Bool, and_parts, eqb-true, leb-true, ltb-true}
use Rattle.lt_face.specs.Rows.{has_row}
use Rattle.lt_face.specs.State.{Row, State, Has, rows_in}
use Rattle.lt_base.proofs.Apart.{has_from, has_to}
use Rattle.lt_sense.specs.Kept.{Sense}
use Rattle.lt_sense.specs.Sense.{covers, lies_in, IsTight}
use Rattle.lt_sense.proofs.Done.{tight_hit, tight_gap}
use Rattle.lt_restate.specs.declared.touch.Spot.{Spot}
use Rattle.lt_restate.specs.declared.touch.Spot.TheVariants.{Hit}
use Rattle.lt_restate.specs.Spots.{IsGapOf, IsSpotOf, IsOwnGap}

long_last : (prefix : Row) (cell : ℕ) → length (prefix ++ cell ∷ []) ≡ length prefix + 1
long_last [] cell = refl
long_last (p ∷ prefix) cell = omega (arith, long_last prefix cell)

-- a row that is as wide and lies in the gap is the row
lies_own : (prefix : Row) (cell : ℕ) (other : Row) → length other ≡ length prefix + 1 → lies_in prefix cell (cell + 1) other ≡ true → other ≡ prefix ++ cell ∷ []
lies_own prefix cell [] long lies = absurd (true≢false (sym lies))
lies_own [] cell (x ∷ []) long lies = ap (λ y. y ∷ []) same
  where
    same : x ≡ cell
    same = (let parts = and_parts (nat_le cell x) (nat_lt x (cell + 1)) lies in let a = leb-true cell x parts.0 in let b = ltb-true x (cell + 1) parts.1 in omega (arith, a, b))
lies_own [] cell (x ∷ y ∷ other) long lies = absurd (omega (arith, long))
lies_own (p ∷ prefix) cell (x ∷ other) long lies =
    let parts = and_parts (p == x) (lies_in prefix cell (cell + 1) other) lies in
    let e = sym (eqb-true p x parts.0) in
    ap (λ y. y ∷ other) e ∙ ap (λ (r : Row). p ∷ r) (lies_own prefix cell other (omega (arith, long)) parts.1)

module _ (sense : Sense) (state : State) (relation : ℕ) (row : Row) (tight : IsTight sense state) (covered : covers sense relation row ≡ true) where
  -- the row was there
  pub spot_hit : has_row (rows_in state relation) row ≡ true → IsSpotOf sense state relation row Hit
  spot_hit there = tight_hit sense state relation row tight (has_from (rows_in state relation) row there) covered

  -- it wasn't
  module _ (gone : has_row (rows_in state relation) row ≡ false) (long : (other : Row) → Has state relation other → length other ≡ length row) where
    absent : Has state relation row → ⊥
    absent there = true≢false (sym (has_to (rows_in state relation) row there) ∙ gone)

    own : (prefix : Row) (cell : ℕ) → row ≡ prefix ++ cell ∷ [] → IsGapOf sense state relation row prefix cell (cell + 1)
    own prefix cell ends = record {
      covered = tight_gap sense state relation row tight absent covered;
      cell = cell;
      ends = ends;
      from = omega arith;
      below = omega arith;
      none = λ other there. elim (cases_Bool (lies_in prefix cell (cell + 1) other)) [
        | inl lies ↦
            let wide : length other ≡ length prefix + 1 = long other there ∙ ap length ends ∙ long_last prefix cell in
            absurd (absent (subst (Has state relation) (lies_own prefix cell other wide lies ∙ sym ends) there))
        | inr off ↦ off
      ];
    }

    pub spot_gap : (spot : Spot) → IsOwnGap row spot → IsSpotOf sense state relation row spot
    spot_gap spot h = subst (IsSpotOf sense state relation row) (sym h.3) (own h.0 h.1 h.2)
