-- The loop over the keys of the first level that makes a slice of each: what it keeps.
use Rattle.std.specs.Prelude.{◌≡◌, ℕ, ◌+◌, ◌-◌, ◌^◌, ◌<◌, ◌≤◌, List, [], ◌∷◌, ◌++◌, length, slice_get, drop, Some}
use Rattle.std.proofs.Common.{subst, arith}
use Rattle.lt_leap.specs.Potential.{join_cost}
use Rattle.lt_query.specs.declared.plans.Level.{Level}
use Rattle.lt_query.specs.Holding.{atoms_at_level}
use Rattle.lt_query.specs.Plan.{term_at}
use Rattle.lt_sense.specs.Kept.{Sense}
use Rattle.lt_join.specs.Slices.{Slice}
use Rattle.lt_join.specs.AtomIter.{AtomView}
use Rattle.lt_join.specs.Cost.{cost_from, iterators_at}
use Rattle.lt_join.specs.Explored.{Fits}
use Rattle.lt_join.specs.Holders.{atoms_at}
use Rattle.lt_join.specs.Level.{HasGone, IsLevelAt, left_at}
use Rattle.lt_join.specs.Parts.{AreSlicesWithin}
use Rattle.lt_join.specs.Sliced.{IsSliceOf, united}
use Rattle.lt_join.specs.Walked.{at}
use Rattle.lt_join.specs.Way.{WayView}
use Rattle.lt_join.proofs.Costs.{IsPaid, IsCredited, IsPaid-begun, IsPaid-more, cost-all, cost-stopped}
use Rattle.lt_join.proofs.Going.{level_there}
use Rattle.lt_join.proofs.KeyByKey.{AreSliced, AreSliced-begun, AreSliced-more, slices_within, credited_begun, credited_more}

-- the level stands at a key or at its end, and there is a slice for each key before that
pub record IsGathering (way : WayView) (root : Sense) (slices : List Slice) (above atoms : List AtomView) (lo hi began now key turn : ℕ) : Type 0 where
  pub level : Level
  pub here : slice_get way.plan.levels 0 ≡ Some level
  pub sliced : AreSliced way.body way.plan way.terms way.state level lo hi root slices key
  pub paid : IsPaid (length way.body.absents) way.plan way.state [] level began now (left_at level (atoms_at_level way.plan.guides 0) atoms key turn) key
  pub credited : IsCredited (length (atoms_at way.plan.guides 0)) (record { gaps = []; hits = [] }) (united root slices) began now key
  pub reaches : lo ≤ key
  pub rises : began ≤ now
  pub stands : key < 2 ^ 128 - 1 → IsLevelAt way.plan way.state [] (atoms_at_level way.plan.guides 0) above atoms key turn

-- the level was opened
pub gathering_begun : (way : WayView) (none root : Sense) (slices : List Slice) (above atoms : List AtomView) (lo hi began now key turn : ℕ) → 0 < length way.plan.levels → none ≡ record { gaps = []; hits = [] } → slices ≡ []
    → ((level : Level) → slice_get way.plan.levels 0 ≡ Some level → HasGone way.body way.plan way.state none root [] level (atoms_at_level way.plan.guides 0) above atoms lo (began + join_cost (iterators_at way.state way.plan.guides level 0 (at []))) began now key turn)
    → IsGathering way root slices above atoms lo hi began now key turn
gathering_begun way none root slices above atoms lo hi began now key turn some empty no_slices opened =
    let f = level_there way.plan.levels 0 some in
    let gone = opened f.0 f.1 in
    record {
      level = f.0;
      here = f.1;
      sliced = AreSliced-begun way.body way.plan way.terms way.state f.0 lo hi none root slices key no_slices empty gone.gains.hits gone.under gone.stands;
      paid = IsPaid-begun (length way.body.absents) way.plan way.state [] f.0 began now (left_at f.0 (atoms_at_level way.plan.guides 0) atoms key turn) key gone.cost;
      credited = credited_begun (length (atoms_at way.plan.guides 0)) none root slices began now key no_slices empty gone.gains;
      reaches = gone.reaches;
      rises = gone.gains.rises;
      stands = gone.at_key;
    }

-- one more slice, and the level went on
pub gathering_more : (way : WayView) (root root' : Sense) (slices more : List Slice) (slice : Slice) (above atoms next : List AtomView) (lo hi began now after end key turn key' turn' : ℕ) → IsGathering way root slices above atoms lo hi began now key turn → key < 2 ^ 128 - 1 → key < hi
    → more ≡ slices ++ slice ∷ [] → slice.key ≡ key → IsSliceOf way.terms way.body (term_at way.plan.levels 0) way.state slice
    → length slice.sense.gaps + now ≤ after → length slice.sense.hits + now ≤ after + length (atoms_at way.plan.guides 0)
    → after ≤ now + cost_from (length way.body.absents) way.state way.plan.guides (drop 1 way.plan.levels) 1 (at (key ∷ [])) → now ≤ after
    → ((level : Level) → slice_get way.plan.levels 0 ≡ Some level → Fits level (at []) key → HasGone way.body way.plan way.state root root' [] level (atoms_at_level way.plan.guides 0) above next (key + 1) (after + left_at level (atoms_at_level way.plan.guides 0) atoms key turn) after end key' turn')
    → IsGathering way root' more above next lo hi began end key' turn'
gathering_more way root root' slices more slice above atoms next lo hi began now after end key turn key' turn' so at_key low is of_key is_slice gaps hits below waits went =
    let gone = went so.level so.here (so.sliced.at_key at_key).1 in
    let rises : key < key' = (let a = gone.reaches in omega (arith, a)) in
    record {
      level = so.level;
      here = so.here;
      sliced = AreSliced-more way.body way.plan way.terms way.state so.level lo hi root root' slices more slice key key' is of_key (so.reaches, low) is_slice rises gone.gains.hits gone.under gone.stands (so.paid.is_common at_key) so.sliced;
      paid = IsPaid-more (length way.body.absents) way.plan way.state [] [] so.level began now (left_at so.level (atoms_at_level way.plan.guides 0) atoms key turn) key after end (left_at so.level (atoms_at_level way.plan.guides 0) next key' turn') key' at_key rises so.paid below gone.cost;
      credited = credited_more (length (atoms_at way.plan.guides 0)) root root' slices more slice began now after end key key' is at_key gaps hits gone.gains so.credited;
      reaches = (let a = so.reaches in omega (arith, a, rises));
      rises = (let a = so.rises in let b = gone.gains.rises in omega (arith, a, b, waits));
      stands = gone.at_key;
    }

module _ (way : WayView) (root : Sense) (slices : List Slice) (above atoms : List AtomView) (lo hi began now key turn : ℕ) (so : IsGathering way root slices above atoms lo hi began now key turn) where
  pub slice_fits : key < 2 ^ 128 - 1 → (level : Level) → slice_get way.plan.levels 0 ≡ Some level → Fits level (at []) key
  slice_fits at_key level there =
      let same : so.level ≡ level = (let a = so.here in let b = there in cc) in
      subst (λ (lv : Level). Fits lv (at []) key) same (so.sliced.at_key at_key).1

  pub gathered_all : hi ≤ key → AreSlicesWithin way.terms way.body way.plan way.state lo hi root slices
  gathered_all past = slices_within way.body way.plan way.terms way.state so.level lo hi root slices key so.here past so.sliced

  pub gathering_cost : now ≤ began + cost_from (length way.body.absents) way.state way.plan.guides way.plan.levels 0 (at [])
  gathering_cost = cost-all (length way.body.absents) way.plan way.state [] so.level began now (left_at so.level (atoms_at_level way.plan.guides 0) atoms key turn) key so.here so.paid

  pub slice_cost : (after end : ℕ) → key < 2 ^ 128 - 1 → after ≤ now + cost_from (length way.body.absents) way.state way.plan.guides (drop 1 way.plan.levels) 1 (at (key ∷ []))
      → ((level : Level) → slice_get way.plan.levels 0 ≡ Some level → end ≤ after + left_at level (atoms_at_level way.plan.guides 0) atoms key turn)
      → end ≤ began + cost_from (length way.body.absents) way.state way.plan.guides way.plan.levels 0 (at [])
  slice_cost after end at_key below more =
      let left = left_at so.level (atoms_at_level way.plan.guides 0) atoms key turn in
      let last = more so.level so.here in
      cost-stopped (length way.body.absents) way.plan way.state [] so.level began now left key end so.here at_key so.paid (omega (arith, below, last))
