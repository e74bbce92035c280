-- What a seat knows of a machine.
use Rattle.std.proofs.Common.{◌≡◌, ℕ, ◌+◌, ◌<◌, ◌≤◌, inl, arith, List, ◌++◌, map, Option, Some, None, refl, sym, ap, ◌∙◌, subst}
use mathlib.Core.Logic.{dite}
use native.Mathlib.Decide.{dec_le}
use Rattle.std.proofs.lemmas.List.Elements.{All-weaker}
use Rattle.lt_net.specs.Alone.{IsUnclaimed}
use Rattle.lt_net.specs.Net.{Net, State, Claim as NetClaim, opening, replay}
use Rattle.lt_turn.specs.Journal.{Extends, GoesOn, IsOutside}
use Rattle.lt_turn.specs.declared.view.View.{View}
use Rattle.lt_workers.specs.Seen.{Stand, event_for, reached, IsStanding, Knows, Claims, AreFree, BeginsFree}
use Rattle.lt_workers.proofs.Replays.{replay_keeps, events_outside, replay_parts, events_append}

module _ {B : Type 0} (net_of : B → Net) where
  pub reached_as : (o : Option B) (log : List (ℕ × ℕ)) (c : Stand B) → o ≡ Some c.basis → log ≡ c.pairs → IsStanding net_of c → reached net_of o log ≡ Some c.state
  reached_as o log c same logged is = subst (λ (x : Option B × List (ℕ × ℕ)). reached net_of x.0 x.1 ≡ Some c.state) (λ k. (sym same k, sym logged k)) is

  -- what leads to a state led to one before, in which the workers' claims were the same
  pub reached_before : (o : Option B) (first end : ℕ) (seen log : List (ℕ × ℕ)) (t : State) → Extends first end seen log → reached net_of o log ≡ Some t
      → (s : State) × (reached net_of o seen ≡ Some s) × ((v : ℕ) → first ≤ v → v < end → t.claim v ≡ s.claim v)
  reached_before None first end seen log t x is = absurd (cc)
  reached_before (Some b) first end seen log t x is =
      let net = net_of b in
      let all : map event_for log ≡ map event_for seen ++ map event_for x.0 = ap (λ (l : List (ℕ × ℕ)). map event_for l) x.1 ∙ events_append seen x.0 in
      let p = replay_parts net (opening net) t (map event_for seen) (map event_for x.0) (ap (replay net (Some (opening net))) (sym all) ∙ is) in
      (p.0, p.1, λ v low high. replay_keeps net (map event_for x.0) p.0 t v (events_outside first end v x.0 low high x.2) p.2)

  -- so what the seat knows of its workers' claims is so
  pub claims_stand : (v : View B) (c : Stand B) → v.opening ≡ Some c.basis → Extends v.first v.end v.seen c.pairs → IsStanding net_of c
      → (worker : ℕ) (claim : Option NetClaim) → v.first ≤ worker → worker < v.end → Claims net_of v worker claim → c.state.claim worker ≡ claim
  claims_stand v c same x is worker claim low high known =
      let r = reached_before v.opening v.first v.end v.seen c.pairs c.state x (reached_as v.opening c.pairs c same refl is) in
      r.2 worker low high ∙ known r.0 r.1

  pub claims_of : (v : View B) (t : State) → Knows net_of v t → (worker : ℕ) (claim : Option NetClaim) → t.claim worker ≡ claim → Claims net_of v worker claim
  claims_of v t known worker claim is s k = let e : Some s ≡ Some t = sym k ∙ known in let same : s ≡ t = cc in ap (λ (x : State). x.claim worker) same ∙ is

  -- where none of all workers has a claim, and none had one at first, no claim stands
  pub closed_free : (v : View B) (c : Stand B) → v.opening ≡ Some c.basis → c.pairs ≡ v.seen → IsStanding net_of c → v.first ≡ 0 → v.end ≡ v.workers
      → GoesOn v.workers v.begun v.seen → BeginsFree net_of v → AreFree net_of v → IsUnclaimed c.state
  closed_free v c same seen is first end on begun free w =
      let known = reached_as v.opening v.seen c same (sym seen) is in
      dite (dec_le v.workers w)
      (λ le.
      let x : Extends v.workers (w + 1) v.begun v.seen = (on.0, on.1, All-weaker (λ (e : ℕ × ℕ). e.0 < v.workers) (IsOutside v.workers (w + 1)) (λ e small. inl small) on.0 on.2) in
      let r = reached_before v.opening v.workers (w + 1) v.begun v.seen c.state x known in
      r.2 w le (omega arith) ∙ begun r.0 r.1 w)
      (λ not. free w (omega arith) (omega arith) c.state known)
