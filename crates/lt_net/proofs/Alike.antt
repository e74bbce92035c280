-- Nets whose jobs are the same open alike, and replay the same events alike.
use Rattle.std.proofs.Common.{◌≡◌, ℕ, Bool, true, false, List, [], ◌∷◌, Option, Some, None, refl, ap, ◌∙◌}
use Rattle.std.specs.Prelude.{if◌then◌else◌}
use Rattle.lt_model.specs.declared.mark.Mark.{Mark}
use Rattle.lt_net.specs.declared.job.JobState.TheVariants.{Clean, Pending, Running}
use Rattle.lt_net.specs.Net.{Cell, Claim, Event, Claims, Finishes, Abandons, Net, State, claim_of, claim_step, claimed, finish_step, finished, first_of, has_cell, is_pending, opening, read, replay, same_at, status_ended, step, update, value_after, woken}
use Rattle.lt_net.specs.Alike.{AreAlike}

module _ (a b : Net) (h : AreAlike a b) where
  pub opening_alike : opening a ≡ opening b
  opening_alike = λ i. record {
    value = λ x. [];
    status = λ code. if h.starts code i then Pending else Clean;
    done = λ code. None;
    claim = λ w. None;
  }

  claimed_alike : (s : State) (w code : ℕ) → claimed a s w code ≡ claimed b s w code
  claimed_alike s w code =
      ap (λ (cells : List Cell). record s {
        status = update s.status code Running;
        claim = update s.claim w (Some (record { job = code; inputs = read s.value cells; prior = s.done code }));
      }) (h.inputs code)

  module _ (s : State) (c : Claim) where
    value_at : (x : Cell) → value_after a s c x ≡ value_after b s c x
    value_at x = ap (λ (cells : List Cell). if has_cell x cells then a.gives c.job c.inputs x else s.value x) (h.outputs c.job) ∙ by_case (has_cell x (b.outputs c.job)) refl
      where
        by_case : (p : Bool) → has_cell x (b.outputs c.job) ≡ p → (if p then a.gives c.job c.inputs x else s.value x) ≡ (if p then b.gives c.job c.inputs x else s.value x)
        by_case true e = h.gives c.job c.inputs x e
        by_case false e = refl

    finished_alike : (w : ℕ) → finished a s w c ≡ finished b s w c
    finished_alike w = λ i. record {
      value = λ x. value_at x i;
      status = λ code. if same_at s.value (λ x. value_at x i) (h.inputs code i) then status_ended s c code else woken (status_ended s c code);
      done = if h.is_leaf c.job i then update s.done c.job (Some (first_of c.inputs)) else s.done;
      claim = update s.claim w None;
    }

  step_alike : (s : State) (event : Event) → step a s event ≡ step b s event
  step_alike s (Claims w code) = by_claim (s.claim w)
    where
      by_claim : (o : Option Claim) → claim_step a s w code o ≡ claim_step b s w code o
      by_claim None = ap (λ (t : State). if is_pending (s.status code) then Some t else None) (claimed_alike s w code)
      by_claim (Some c) = refl
  step_alike s (Finishes w code) = by_claim (claim_of (s.claim w) code)
    where
      by_claim : (o : Option Claim) → finish_step a s w o ≡ finish_step b s w o
      by_claim None = refl
      by_claim (Some c) = ap Some (finished_alike s c w)
  step_alike s (Abandons w code) = refl

  pub replay_alike : (events : List Event) (s : State) → replay a (Some s) events ≡ replay b (Some s) events
  replay_alike [] s = refl
  replay_alike (event ∷ events) s = ap (λ o. replay a o events) (step_alike s event) ∙ next (λ t. replay_alike events t) (step b s event)
    where
      next : ((t : State) → replay a (Some t) events ≡ replay b (Some t) events) → (o : Option State) → replay a o events ≡ replay b o events
      next later None = refl
      next later (Some t) = later t
