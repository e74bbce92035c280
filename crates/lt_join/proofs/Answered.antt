-- What a walk over all levels answers, whatever it wants of them.
use Rattle.std.specs.Prelude.{◌≡◌, ℕ, ◌+◌, ◌≤◌, Bool, true, false, List, [], length}
use Rattle.std.proofs.Common.{sym, ap, ◌∙◌, subst, inl, inr, arith}
use Rattle.lt_face.specs.State.{State}
use Rattle.lt_model.specs.declared.normal.Term.{Term}
use Rattle.lt_model.specs.declared.normal.Body.{Body}
use Rattle.lt_model.specs.Answers.{answers, ascending}
use Rattle.lt_model.specs.Bound.{are_bound}
use Rattle.lt_query.specs.Answering.{AreTestsBound}
use Rattle.lt_query.specs.declared.plans.Plan.{Plan}
use Rattle.lt_query.specs.Plan.{IsPlanOf}
use Rattle.lt_sense.specs.Kept.{Sense}
use Rattle.lt_join.specs.declared.Found.{Found}
use Rattle.lt_join.specs.Certify.{Certifies}
use Rattle.lt_join.specs.Cost.{bound, cost_from}
use Rattle.lt_join.specs.Holders.{IsPrepared}
use Rattle.lt_join.specs.Walked.{at, IsReached}
use Rattle.lt_join.specs.Way.{WayView, HasWalked}
use Rattle.lt_join.proofs.Prepared.{has_columns}
use Rattle.lt_join.proofs.Steps.{IsReached-none, answers_found, found_all, never_early}

-- a way by this plan of the body, on which each answer is looked for
pub record IsWayOf (s : State) (b : Body) (p : Plan) (ts : List Term) (way : WayView) : Type 0 where
  pub state : way.state ≡ s
  pub body : way.body ≡ b
  pub plan : way.plan ≡ p
  pub terms : way.terms ≡ ts
  pub each : way.first ≡ false

module _ (s : State) (b : Body) (p : Plan) (ts : List Term) (way : WayView) (is : IsWayOf s b p ts way) where
  pub reached_of : IsPrepared b p ts → (sense : Sense) → IsReached way.plan sense []
  reached_of prepared sense =
      subst (λ (q : Plan). IsReached q sense []) (sym is.plan) (IsReached-none p sense (has_columns p.guides prepared.runnable.widths))

  plan_there : IsPlanOf b p → IsPlanOf way.body way.plan
  plan_there of_body = subst (λ (q : Plan). IsPlanOf way.body q) (sym is.plan) (subst (λ (c : Body). IsPlanOf c p) (sym is.body) of_body)

  bound_there : are_bound b ts ≡ true → are_bound way.body way.terms ≡ true
  bound_there heads = ap (are_bound way.body) is.terms ∙ (ap (λ (c : Body). are_bound c ts) is.body ∙ heads)

  pub answers_of : {S : Type 0} → (old new : Found S) (began now : ℕ) (stopped : Bool) → IsPlanOf b p → AreTestsBound b → are_bound b ts ≡ true → HasWalked way [] old new began now stopped → ascending new.rows ≡ answers ts b s
  answers_of old new began now stopped of_body whole heads walked =
      answers_found way new (plan_there of_body) (subst AreTestsBound (sym is.body) whole) (bound_there heads) walked.right (walked.explored (inl is.each))
      ∙ (ap (λ (us : List Term). answers us way.body way.state) is.terms ∙ (ap (λ (c : Body). answers ts c way.state) is.body ∙ ap (answers ts b) is.state))

  -- where all levels are wanted
  pub certified_of : {S : Type 0} → (old new : Found S) (began now : ℕ) (stopped : Bool) → length way.plan.levels ≤ way.wanted → IsPlanOf b p → AreTestsBound b → are_bound b ts ≡ true → HasWalked way [] old new began now stopped → Certifies new.sense b s
  certified_of old new began now stopped all of_body whole heads walked =
      let both = found_all way new (never_early way (inr all)) (plan_there of_body) (subst AreTestsBound (sym is.body) whole) (bound_there heads) walked.right (walked.explored (inl is.each)) in
      subst (λ (t : State). Certifies new.sense b t) is.state (subst (λ (c : Body). Certifies new.sense c way.state) is.body both.1)

  pub cost_of : (began now : ℕ) → now ≤ began + cost_from (length way.body.absents) way.state way.plan.guides way.plan.levels 0 (at []) → now ≤ began + bound b p s
  cost_of began now within =
      subst (λ (t : State). now ≤ began + bound b p t) is.state
      (subst (λ (q : Plan). now ≤ began + bound b q way.state) is.plan (subst (λ (c : Body). now ≤ began + bound c way.plan way.state) is.body within))

-- a new way, whatever it wants
pub way_of : (s : State) (b : Body) (p : Plan) (ts us : List Term) (wanted : ℕ) (way : WayView) → us ≡ ts → way ≡ record { state = s; body = b; plan = p; terms = us; first = false; wanted = wanted } → IsWayOf s b p ts way
way_of s b p ts us wanted way same is = record {
  state = ap (λ (w : WayView). w.state) is;
  body = ap (λ (w : WayView). w.body) is;
  plan = ap (λ (w : WayView). w.plan) is;
  terms = ap (λ (w : WayView). w.terms) is ∙ same;
  each = ap (λ (w : WayView). w.first) is;
}

pub all_wanted : (s : State) (b : Body) (p : Plan) (us : List Term) (wanted : ℕ) (way : WayView) → wanted ≡ length p.levels → way ≡ record { state = s; body = b; plan = p; terms = us; first = false; wanted = wanted } → length way.plan.levels ≤ way.wanted
all_wanted s b p us wanted way all is =
    let count = ap (λ (w : WayView). length w.plan.levels) is in
    let of_way = ap (λ (w : WayView). w.wanted) is in
    omega (arith, count, of_way, all)
