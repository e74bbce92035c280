-- The loop over the keys of the first level, where each step's gaps are noted by themselves and then added to the root's.
use Rattle.std.specs.Prelude.{◌≡◌, ℕ, ◌+◌, ◌-◌, ◌^◌, ◌<◌, ◌≤◌, List, [], ◌∷◌, ◌++◌, length, slice_get, drop, Some}
use Rattle.std.proofs.Common.{sym, subst}
use Rattle.lt_leap.specs.Potential.{join_cost}
use Rattle.lt_query.specs.declared.plans.Level.{Level}
use Rattle.lt_query.specs.Holding.{atoms_at_level}
use Rattle.lt_query.specs.Plan.{term_at}
use Rattle.lt_sense.specs.Kept.{Sense}
use Rattle.lt_sense.specs.Sense.{IsTight}
use Rattle.lt_join.specs.AtomIter.{AtomView}
use Rattle.lt_join.specs.Cost.{cost_from, iterators_at}
use Rattle.lt_join.specs.Explored.{Fits}
use Rattle.lt_join.specs.Holders.{atoms_at}
use Rattle.lt_join.specs.Level.{HasGone, left_at}
use Rattle.lt_join.specs.Slices.{Slice}
use Rattle.lt_join.specs.Sliced.{AreRootGaps, IsSliceOf}
use Rattle.lt_join.specs.Walked.{at}
use Rattle.lt_join.specs.Way.{WayView}
use Rattle.lt_join.proofs.Going.{Opens, level_there}
use Rattle.lt_join.proofs.GoingByKey.{IsGathering, gathering_begun, gathering_more}
use Rattle.lt_join.proofs.Handed.{gone_onto, noted_root}

-- ---- the level was opened

module _ (way : WayView) (noted step : Sense) (above atoms : List AtomView) (lo began now key turn : ℕ) (some : 0 < length way.plan.levels) (empty : noted ≡ record { gaps = []; hits = [] }) (opened : Opens way noted step above atoms lo began now key turn []) where
  pub opened_root : AreRootGaps step
  opened_root =
      let f = level_there way.plan.levels 0 some in
      noted_root way.body way.plan way.state noted step f.0 (atoms_at_level way.plan.guides 0) above atoms lo (began + join_cost (iterators_at way.state way.plan.guides f.0 0 (at []))) began now key turn empty (opened f.0 f.1)

  pub begun_onto : (none root : Sense) (slices : List Slice) (hi : ℕ) → none ≡ record { gaps = []; hits = [] } → slices ≡ [] → root.gaps ≡ none.gaps ++ step.gaps → root.hits ≡ none.hits → IsGathering way root slices above atoms lo hi began now key turn
  begun_onto none root slices hi nothing no_slices gaps hits =
      gathering_begun way none root slices above atoms lo hi began now key turn some nothing no_slices (λ level here.
      gone_onto way.body way.plan way.state noted step none root level (atoms_at_level way.plan.guides 0) above atoms lo (began + join_cost (iterators_at way.state way.plan.guides level 0 (at []))) began now key turn empty
      (subst (λ (s : Sense). IsTight s way.state) (sym nothing) (record { gaps = tt; hits = tt })) gaps hits (opened level here))

-- ---- and went on

-- where the level at the root goes on from a key that fits
abbrev pub Went : WayView → Sense → Sense → List AtomView → List AtomView → List AtomView → ℕ → ℕ → ℕ → ℕ → ℕ → ℕ → Type 0
Went way noted step above atoms next key turn after end key' turn' =
    (level : Level) → slice_get way.plan.levels 0 ≡ Some level → Fits level (at []) key
    → HasGone way.body way.plan way.state noted step [] level (atoms_at_level way.plan.guides 0) above next (key + 1) (after + left_at level (atoms_at_level way.plan.guides 0) atoms key turn) after end key' turn'

module _ (way : WayView) (noted step root : Sense) (slices : List Slice) (above atoms : List AtomView) (lo hi began now key turn : ℕ) (so : IsGathering way root slices above atoms lo hi began now key turn) (next : List AtomView) (after end key' turn' : ℕ) (at_key : key < 2 ^ 128 - 1)
    (empty : noted ≡ record { gaps = []; hits = [] }) (went : Went way noted step above atoms next key turn after end key' turn') where
  pub went_root : AreRootGaps step
  went_root =
      noted_root way.body way.plan way.state noted step so.level (atoms_at_level way.plan.guides 0) above next (key + 1) (after + left_at so.level (atoms_at_level way.plan.guides 0) atoms key turn) after end key' turn' empty (went so.level so.here (so.sliced.at_key at_key).1)

  pub more_onto : (root' : Sense) (more : List Slice) (slice : Slice) → key < hi → root'.gaps ≡ root.gaps ++ step.gaps → root'.hits ≡ root.hits
      → more ≡ slices ++ slice ∷ [] → slice.key ≡ key → IsSliceOf way.terms way.body (term_at way.plan.levels 0) way.state slice
      → length slice.sense.gaps + now ≤ after → length slice.sense.hits + now ≤ after + length (atoms_at way.plan.guides 0)
      → after ≤ now + cost_from (length way.body.absents) way.state way.plan.guides (drop 1 way.plan.levels) 1 (at (key ∷ [])) → now ≤ after
      → IsGathering way root' more above next lo hi began end key' turn'
  more_onto root' more slice low gaps hits is of_key is_slice few_gaps few_hits below waits =
      gathering_more way root root' slices more slice above atoms next lo hi began now after end key turn key' turn' so at_key low is of_key is_slice few_gaps few_hits below waits (λ level here fits.
      gone_onto way.body way.plan way.state noted step root root' level (atoms_at_level way.plan.guides 0) above next (key + 1) (after + left_at level (atoms_at_level way.plan.guides 0) atoms key turn) after end key' turn' empty so.sliced.tight gaps hits (went level here fits))
