-- Claims over a list of events: an event changes its own worker's claim alone.
use Rattle.std.proofs.Common.{◌≡◌, ◌≢◌, ℕ, ◌<◌, ◌≤◌, ⊎_elim, Bool, true, false, List, [], ◌∷◌, ◌++◌, map, Option, Some, None, refl, sym, ap, ◌∙◌, arith}
use Rattle.std.specs.Prelude.{All, if◌then◌else◌}
use Rattle.std.specs.List.{AllByRecursion}
use Rattle.std.proofs.lemmas.List.{map-append}
use Rattle.std.proofs.lemmas.List.Elements.{All-head, All-tail}
use Rattle.lt_net.specs.Net.{Net, State, Claim as NetClaim, Event, Claims, Finishes, Abandons, step, claim_step, finish_step, abandon_step, claim_of, claimed, finished, abandoned, is_pending, replay}
use Rattle.lt_circuit.specs.Shape.{worker_of}
use Rattle.lt_net.proofs.Runs.{replay_append}
use Rattle.lt_circuit.proofs.Entries.{worker_told}
use Rattle.lt_circuit.proofs.Steps.{other_claim}
use Rattle.lt_turn.specs.Journal.{IsOutside}
use Rattle.lt_workers.specs.Seen.{event_for}

module _ (net : Net) (s t : State) (w v : ℕ) (other : v ≢ w) where
  claims_keep : (j : ℕ) (o : Option NetClaim) → claim_step net s w j o ≡ Some t → t.claim v ≡ s.claim v
  claims_keep j None is = by_status (is_pending (s.status j)) is
    where
      by_status : (b : Bool) → (if b then Some (claimed net s w j) else None) ≡ Some t → t.claim v ≡ s.claim v
      by_status true is = let e : claimed net s w j ≡ t = cc in sym (ap (λ (x : State). x.claim v) e) ∙ other_claim s.claim w _ v other
      by_status false is = absurd (cc)
  claims_keep j (Some c) is = absurd (cc)

  finish_keeps : (o : Option NetClaim) → finish_step net s w o ≡ Some t → t.claim v ≡ s.claim v
  finish_keeps None is = absurd (cc)
  finish_keeps (Some c) is = let e : finished net s w c ≡ t = cc in sym (ap (λ (x : State). x.claim v) e) ∙ other_claim s.claim w _ v other

  abandon_keeps : (o : Option NetClaim) → abandon_step s w o ≡ Some t → t.claim v ≡ s.claim v
  abandon_keeps None is = absurd (cc)
  abandon_keeps (Some c) is = let e : abandoned s w c ≡ t = cc in sym (ap (λ (x : State). x.claim v) e) ∙ other_claim s.claim w _ v other

module _ (net : Net) where
  step_keeps : (s t : State) (e : Event) (v : ℕ) → v ≢ worker_of e → step net s e ≡ Some t → t.claim v ≡ s.claim v
  step_keeps s t (Claims w j) v other is = claims_keep net s t w v other j (s.claim w) is
  step_keeps s t (Finishes w j) v other is = finish_keeps net s t w v other (claim_of (s.claim w) j) is
  step_keeps s t (Abandons w j) v other is = abandon_keeps net s t w v other (claim_of (s.claim w) j) is

  pub replay_keeps : (es : List Event) (s t : State) (v : ℕ) → AllByRecursion (λ (e : Event). v ≢ worker_of e) es → replay net (Some s) es ≡ Some t → t.claim v ≡ s.claim v
  replay_keeps [] s t v all is = let e : s ≡ t = cc in sym (ap (λ (x : State). x.claim v) e)
  replay_keeps (e ∷ es) s t v all is = by_step (step net s e) refl (λ u. replay_keeps es u t v all.1) is
    where
      by_step : (o : Option State) → step net s e ≡ o → ((u : State) → replay net (Some u) es ≡ Some t → t.claim v ≡ u.claim v) → replay net o es ≡ Some t → t.claim v ≡ s.claim v
      by_step None eq later is = absurd (cc)
      by_step (Some u) eq later is = later u is ∙ step_keeps s u e v all.0 eq

outside : (first end v : ℕ) (e : ℕ × ℕ) → first ≤ v → v < end → IsOutside first end e → v ≢ worker_of (event_for e)
outside first end v e low high out same =
    let is : worker_of (event_for e) ≡ e.0 = worker_told e.0 e.1 in
    ⊎_elim (λ (l : e.0 < first). absurd (omega arith)) (λ (h : end ≤ e.0). absurd (omega arith)) out

pub events_outside : (first end v : ℕ) (rest : List (ℕ × ℕ)) → first ≤ v → v < end → All (IsOutside first end) rest → AllByRecursion (λ (e : Event). v ≢ worker_of e) (map event_for rest)
events_outside first end v [] low high all = tt
events_outside first end v (x ∷ xs) low high all =
    (outside first end v x low high (All-head (IsOutside first end) x xs all), events_outside first end v xs low high (All-tail (IsOutside first end) x xs all))

-- what leads on from a state that the first events lead to
pub replay_parts : (net : Net) (s t : State) (es fs : List Event) → replay net (Some s) (es ++ fs) ≡ Some t → (u : State) × (replay net (Some s) es ≡ Some u) × (replay net (Some u) fs ≡ Some t)
replay_parts net s t es fs is = by_middle (replay net (Some s) es) refl (sym (replay_append net es fs (Some s)) ∙ is)
  where
    by_middle : (o : Option State) → replay net (Some s) es ≡ o → replay net o fs ≡ Some t → (u : State) × (replay net (Some s) es ≡ Some u) × (replay net (Some u) fs ≡ Some t)
    by_middle None eq is = absurd (cc)
    by_middle (Some u) eq is = (u, eq, is)

pub events_append : (xs ys : List (ℕ × ℕ)) → map event_for (xs ++ ys) ≡ map event_for xs ++ map event_for ys
events_append xs ys = map-append event_for xs ys
