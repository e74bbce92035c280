-- One key of the first level: it was found there, or passed.
use Rattle.std.specs.Prelude.{◌≡◌, ℕ, ◌+◌, ◌-◌, ◌^◌, ◌<◌, ◌≤◌, true, List, [], ◌∷◌, length, slice_get, Some}
use Rattle.std.proofs.Common.{refl, subst, inl, inr, arith}
use Rattle.lt_face.specs.Lists.{IsIn}
use Rattle.lt_leap.specs.Common.{common_keys}
use Rattle.lt_model.specs.Cells.{is_cell}
use Rattle.lt_query.specs.Plan.{term_at}
use Rattle.lt_query.specs.declared.plans.Level.{Level}
use Rattle.lt_sense.specs.Kept.{Sense}
use Rattle.lt_join.specs.AtomIter.{AtomView}
use Rattle.lt_join.specs.Cost.{bound, iterators_at}
use Rattle.lt_join.specs.Explored.{Fits}
use Rattle.lt_join.specs.Holders.{atoms_at}
use Rattle.lt_join.specs.Level.{AreAtomsAt}
use Rattle.lt_join.specs.OfKey.{IsOfKey, cost_below, parts_at}
use Rattle.lt_join.specs.Slices.{Slice}
use Rattle.lt_join.specs.Sliced.{AreFoundKeys, AreRootGaps, IsSliceOf}
use Rattle.lt_join.specs.Walked.{at, IsSkipped}
use Rattle.lt_join.specs.Way.{WayView, IsWay}
use Rattle.lt_join.proofs.Entered.{entered}
use Rattle.lt_join.proofs.Going.{Opens}
use Rattle.lt_join.proofs.GoingByKey.{IsGathering, gathering_begun, gathering_cost, slice_cost, slice_fits}
use Rattle.lt_join.proofs.KeySlices.{passed_slice}
use Rattle.lt_join.proofs.KnownLists.{walkable_all}
use Rattle.lt_join.proofs.PartsAtKey.{parts_at_key}

module _ (way : WayView) (noted step : Sense) (above atoms : List AtomView) (key began now met turn : ℕ) (is : IsWay way) (some : 0 < length way.plan.levels) (empty : noted ≡ record { gaps = []; hits = [] }) (opened : Opens way noted step above atoms key began now met turn []) where
  going : IsGathering way step [] above atoms key (key + 1) began now met turn
  going = gathering_begun way noted step [] above atoms key (key + 1) began now met turn some empty refl opened

  pub opened_all : now ≤ began + bound way.body way.plan way.state
  opened_all = gathering_cost way step [] above atoms key (key + 1) began now met turn going

  -- ---- found

  module _ (same : met ≡ key) (low : key < 2 ^ 120) where
    at_met : met < 2 ^ 128 - 1
    at_met = omega (arith, same, low)

    pub found_iters : AreAtomsAt way.plan way.state (key ∷ []) atoms
    found_iters =
        subst (λ k. AreAtomsAt way.plan way.state (k ∷ []) atoms) same
        (entered way.plan way.state [] (walkable_all way.body way.plan is.of_body) above atoms met turn (going.stands at_met))

    pub found_cell : is_cell key ≡ true
    found_cell = subst (λ k. is_cell k ≡ true) same (going.sliced.at_key at_met).0

    pub found_fits : (level : Level) → slice_get way.plan.levels 0 ≡ Some level → Fits level (at []) key
    found_fits level here = subst (λ k. Fits level (at []) k) same (slice_fits way step [] above atoms key (key + 1) began now met turn going at_met level here)

    found_common : AreFoundKeys way.plan way.state (key ∷ [])
    found_common level here =
        let first : going.level ≡ level = (let a = going.here in let b = here in cc) in (
          subst (λ k. IsIn k (common_keys (iterators_at way.state way.plan.guides level 0 (at [])))) same
              (subst (λ (l : Level). IsIn met (common_keys (iterators_at way.state way.plan.guides l 0 (at [])))) first (going.paid.is_common at_met)),
          tt,
        )

    pub found_of_key : (sense : Sense) (after : ℕ) → length sense.gaps + now ≤ after → length sense.hits + now ≤ after + length (atoms_at way.plan.guides 0) → after ≤ now + cost_below key way.body way.plan way.state → IsOfKey key way.body way.plan way.state sense
    found_of_key sense after gaps hits below = inr (record { found = found_common; gaps = omega (arith, gaps, below); hits = omega (arith, hits, below) })

    pub found_cost : (after : ℕ) → after ≤ now + cost_below key way.body way.plan way.state → after ≤ began + bound way.body way.plan way.state
    found_cost after below =
        let at_that : after ≤ now + cost_below met way.body way.plan way.state = rw same below in
        slice_cost way step [] above atoms key (key + 1) began now met turn going after after at_met at_that (λ level here. omega arith)

  -- ---- passed

  pub passed_root : AreRootGaps step
  passed_root = going.sliced.gaps

  module _ (apart : met ≡ key → ⊥) where
    skipped : is_cell key ≡ true → IsSkipped way.body way.plan step [] key
    skipped cell =
        let reaches = going.reaches in
        elim (going.sliced.done key cell (omega arith) (omega (arith, reaches, apart))) [ inl none ↦ absurd none | inr s ↦ s ]

    pub passed_is_slice : (slice : Slice) → slice.key ≡ key → slice.rows ≡ [] → slice.sense ≡ record { gaps = parts_at key step.gaps; hits = [] } → IsSliceOf way.terms way.body (term_at way.plan.levels 0) way.state slice
    passed_is_slice = passed_slice way.terms way.body way.plan way.state step key is.of_body some going.sliced.tight skipped

    pub passed_of_key : (sense : Sense) → sense ≡ record { gaps = parts_at key step.gaps; hits = [] } → IsOfKey key way.body way.plan way.state sense
    passed_of_key sense are = inl (rw are (record { gaps = parts_at_key key step.gaps passed_root; hits = refl }))
