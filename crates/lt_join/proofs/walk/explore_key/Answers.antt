use Rattle.std.proofs.Common.{◌≡◌, ℕ, ◌+◌, ◌<◌, ◌≤◌, List, length, drop, Some, slice_get, [], ◌∷◌, ◌++◌, sym, ◌∙◌, ap, arith, inl, subst}
use Rattle.lt_query.specs.declared.plans.Level.{Level}
use Rattle.lt_join.specs.Cost.{cost_from}
use Rattle.lt_join.specs.Explored.{Fits}
use Rattle.lt_join.specs.Holders.{atoms_at}
use Rattle.lt_join.specs.Known.{IsKnown}
use Rattle.lt_join.specs.Level.{AreAtomsAt}
use Rattle.lt_join.specs.Values.{values_in}
use Rattle.lt_join.specs.Walked.{at, IsReached}
use Rattle.lt_join.specs.Way.{HasWalked}
use Rattle.lt_join.proofs.Going.{HasEntered, entered_right, explored_key}
use Rattle.lt_join.proofs.Known.{IsKnown-above}
use Rattle.lt_join.proofs.Steps.{popped}
use Rattle.lt_join.proofs.walk.explore_key.Goals as goal

pub enter-requires-clause-deeper : goal.enter-requires-clause-deeper
enter-requires-clause-deeper g c =
    subst (λ (ks : List ℕ). length ks < length c.args.way.now.plan.levels) (sym c.requires.at_root) c.requires.has_levels

pub enter-requires-clause-iters : goal.enter-requires-clause-iters
enter-requires-clause-iters g c =
    subst (λ (ks : List ℕ). AreAtomsAt c.args.way.now.plan c.args.way.now.state (ks ++ c.args.key ∷ []) c.args.iters.now) (sym c.requires.at_root) c.requires.iters

pub enter-requires-clause-known : goal.enter-requires-clause-known
enter-requires-clause-known g c =
    subst (λ (ks : List ℕ). IsKnown c.args.way.now.plan.levels ks (values_in c.args.walk.now.values.cells)) (sym c.requires.at_root) c.requires.known

pub enter-requires-clause-reached : goal.enter-requires-clause-reached
enter-requires-clause-reached g c =
    subst (IsReached c.args.way.now.plan c.args.walk.now.found.sense) (sym c.requires.at_root) c.requires.reached

pub enter-requires-clause-fits : goal.enter-requires-clause-fits
enter-requires-clause-fits g c =
    subst (λ (ks : List ℕ). (level : Level) → slice_get c.args.way.now.plan.levels (length ks) ≡ Some level → Fits level (at ks) c.args.key) (sym c.requires.at_root) c.requires.fits

pub enter-requires-clause-tight : goal.enter-requires-clause-tight
enter-requires-clause-tight g c =
    c.requires.right.tight

pub descend-requires-clause-iters : goal.descend-requires-clause-iters
descend-requires-clause-iters g c =
    let pushed : c.enter.new.keys ≡ c.args.key ∷ [] = c.in_ok-enter.ensures.keys ∙ ap (λ (ks : List ℕ). ks ++ c.args.key ∷ []) c.requires.at_root in
    subst (λ (ks : List ℕ). AreAtomsAt c.args.way.now.plan c.args.way.now.state ks c.args.iters.now) (sym pushed) c.requires.iters

pub descend-requires-clause-known : goal.descend-requires-clause-known
descend-requires-clause-known g c =
    subst (λ (ks : List ℕ). IsKnown c.args.way.now.plan.levels ks (values_in c.enter.new.walk.values.cells)) (sym c.in_ok-enter.ensures.keys) c.in_ok-enter.ensures.known

pub descend-requires-clause-reached : goal.descend-requires-clause-reached
descend-requires-clause-reached g c =
    subst (IsReached c.args.way.now.plan c.enter.new.walk.found.sense) (sym c.in_ok-enter.ensures.keys) c.in_ok-enter.ensures.reached

pub descend-requires-clause-right : goal.descend-requires-clause-right
descend-requires-clause-right g c =
    let deep : HasEntered c.args.way.now [] c.args.walk.now.found c.enter.new.walk.found = record {
      grows = c.in_ok-enter.ensures.grows;
      tight = c.in_ok-enter.ensures.tight;
      gaps = c.in_ok-enter.ensures.gaps;
      few = subst (λ (ks : List ℕ). length c.enter.new.walk.found.sense.hits ≤ length c.args.walk.now.found.sense.hits + length (atoms_at c.args.way.now.plan.guides (length ks))) c.requires.at_root c.in_ok-enter.ensures.few;
      rows = c.in_ok-enter.ensures.rows;
    } in
    entered_right c.args.way.now [] c.args.walk.now.found c.enter.new.walk.found deep c.requires.right

pub pop-requires : goal.pop-requires
pop-requires g c =
    let pushed : c.enter.new.keys ≡ c.args.key ∷ [] = c.in_ok-enter.ensures.keys ∙ ap (λ (ks : List ℕ). ks ++ c.args.key ∷ []) c.requires.at_root in
    let long = ap length (c.in_ok-descend.ensures.back ∙ pushed) in
    omega (arith, long)

pub returns-clause-back : goal.returns-clause-back
returns-clause-back g c =
    let pushed : c.enter.new.keys ≡ c.args.key ∷ [] = c.in_ok-enter.ensures.keys ∙ ap (λ (ks : List ℕ). ks ++ c.args.key ∷ []) c.requires.at_root in
    popped [] c.args.key c.descend.new.keys c.pop.new.self (c.in_ok-descend.ensures.back ∙ pushed) c.pop.ensures

pub returns-clause-iters : goal.returns-clause-iters
returns-clause-iters g c = c.in_ok-descend.ensures.iters

pub returns-clause-known : goal.returns-clause-known
returns-clause-known g c =
    let pushed : c.enter.new.keys ≡ c.args.key ∷ [] = c.in_ok-enter.ensures.keys ∙ ap (λ (ks : List ℕ). ks ++ c.args.key ∷ []) c.requires.at_root in
    IsKnown-above c.args.way.now.plan.levels [] c.args.key (values_in c.descend.new.walk.values.cells)
    (subst (λ (ks : List ℕ). IsKnown c.args.way.now.plan.levels ks (values_in c.descend.new.walk.values.cells)) pushed c.in_ok-descend.ensures.known)

pub returns-clause-below : goal.returns-clause-below
returns-clause-below g c =
    let pushed : c.enter.new.keys ≡ c.args.key ∷ [] = c.in_ok-enter.ensures.keys ∙ ap (λ (ks : List ℕ). ks ++ c.args.key ∷ []) c.requires.at_root in
    let deep : HasEntered c.args.way.now [] c.args.walk.now.found c.enter.new.walk.found = record {
      grows = c.in_ok-enter.ensures.grows;
      tight = c.in_ok-enter.ensures.tight;
      gaps = c.in_ok-enter.ensures.gaps;
      few = subst (λ (ks : List ℕ). length c.enter.new.walk.found.sense.hits ≤ length c.args.walk.now.found.sense.hits + length (atoms_at c.args.way.now.plan.guides (length ks))) c.requires.at_root c.in_ok-enter.ensures.few;
      rows = c.in_ok-enter.ensures.rows;
    } in
    let walked = subst (λ (ks : List ℕ). HasWalked c.args.way.now ks c.enter.new.walk.found c.descend.new.walk.found c.args.moves.now c.descend.new.moves c.in_ok-descend.field-0) pushed c.in_ok-descend.ensures.walked in
    explored_key c.args.way.now [] c.args.key c.args.walk.now.found c.enter.new.walk.found c.descend.new.walk.found c.args.moves.now c.descend.new.moves c.in_ok-descend.field-0 (inl c.requires.all) deep walked

pub returns-clause-cost : goal.returns-clause-cost
returns-clause-cost g c =
    let pushed : c.enter.new.keys ≡ c.args.key ∷ [] = c.in_ok-enter.ensures.keys ∙ ap (λ (ks : List ℕ). ks ++ c.args.key ∷ []) c.requires.at_root in
    subst (λ (ks : List ℕ). c.descend.new.moves ≤ c.args.moves.now + cost_from (length c.args.way.now.body.absents) c.args.way.now.state c.args.way.now.plan.guides (drop (length ks) c.args.way.now.plan.levels) (length ks) (at ks)) pushed c.descend.ensures.cost

pub returns-in_err-descend-clause-cost : goal.returns-in_err-descend-clause-cost
returns-in_err-descend-clause-cost g c =
    let pushed : c.enter.new.keys ≡ c.args.key ∷ [] = c.in_ok-enter.ensures.keys ∙ ap (λ (ks : List ℕ). ks ++ c.args.key ∷ []) c.requires.at_root in
    subst (λ (ks : List ℕ). c.descend.new.moves ≤ c.args.moves.now + cost_from (length c.args.way.now.body.absents) c.args.way.now.state c.args.way.now.plan.guides (drop (length ks) c.args.way.now.plan.levels) (length ks) (at ks)) pushed c.descend.ensures.cost
