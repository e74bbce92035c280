-- What a seat knows after a visit to a machine.
use Rattle.std.proofs.Common.{◌≡◌, ℕ, ◌<◌, ◌≤◌, Option, Some, None, inl, arith, refl, sym, ap, ◌∙◌, subst}
use Rattle.lt_net.specs.Net.{Net, Claim as NetClaim}
use Rattle.lt_circuit.specs.declared.claim.Claim.{Claim}
use Rattle.lt_circuit.specs.declared.claim.Claim.TheVariants.{Job, Busy, Settled, NoMemory}
use Rattle.lt_turn.specs.Journal.{Extends}
use Rattle.lt_turn.specs.Rule.{holding}
use Rattle.lt_turn.specs.Seats.{MayGive}
use Rattle.lt_turn.specs.declared.view.View.{View}
use Rattle.lt_workers.specs.Seen.{Stand, Grew, GaveUp, IsMove, IsStanding, Knows, Claims}
use Rattle.lt_workers.specs.Visit.{Visits, IsGiven, HasAnswer, KeepsOthers, IsSame}
use Rattle.lt_workers.specs.Driven.{GaveBack}

-- a look at the machine
pub still_move : {B : Type 0} (net_of : B → Net) (worker : ℕ) (c : Stand B) → IsStanding net_of c → IsMove net_of worker c c
still_move net_of worker c is = record { before = is; after = is; basis = refl; grew = inl refl; others = λ v other. refl }

module _ {B : Type 0} (net_of : B → Net) (v w : View B) (before after : Stand B) (worker : ℕ) (first : worker ≡ v.first) (moved : IsMove net_of worker before after) where
  pub visited : v.opening ≡ Some before.basis → Extends v.first v.end v.seen before.pairs → w.seen ≡ after.pairs → Knows net_of w after.state → Visits net_of v w before after
  visited opening extends seen known = record {
    opening = opening;
    extends = extends;
    replayed = moved.before;
    grew = subst (λ (n : ℕ). Grew n before.pairs after.pairs) first moved.grew;
    seen = seen;
    known = known;
  }

  -- the machine may be given back
  pub may_give : (h : View B) → h ≡ holding v before.pairs → MayGive h after.pairs
  may_give h is = subst (λ (x : View B). MayGive x after.pairs) (sym is) (before.pairs, refl, subst (λ (n : ℕ). Grew n before.pairs after.pairs) first moved.grew)

  pub still_over : (h : View B) → h ≡ holding v before.pairs → v.opening ≡ Some before.basis → h.opening ≡ Some after.basis
  still_over h is opening = ap (λ (x : View B). x.opening) is ∙ (opening ∙ ap (λ (b : B). Some b) (sym moved.basis))

  module _ (given : (u : ℕ) (claim : Option NetClaim) → after.state.claim u ≡ claim → Claims net_of w u claim) where
    pub others_kept : ((u : ℕ) (claim : Option NetClaim) → v.first ≤ u → u < v.end → Claims net_of v u claim → before.state.claim u ≡ claim) → KeepsOthers net_of v w
    others_kept claims u claim low high other known = given u claim (moved.others u (λ e. other (e ∙ first)) ∙ claims u claim low high known)

    module _ (same : w.first ≡ v.first) where
      here : worker ≡ w.first
      here = first ∙ sym same

      pub first_has : (claim : Option NetClaim) → after.state.claim worker ≡ claim → Claims net_of w w.first claim
      first_has claim is = given w.first claim (sym (ap after.state.claim here) ∙ is)

      pub has_answer : {J : Type 0} (claim_of : J → NetClaim) (is_of : B → J → Type 0) (answer : Claim J) → IsGiven claim_of is_of after worker answer → w.opening ≡ Some before.basis → Knows net_of w after.state → HasAnswer net_of claim_of is_of w answer
      has_answer claim_of is_of (Job job) is opening known =
          (first_has (Some (claim_of job)) is.0, λ b e. let f : Some b ≡ Some before.basis = sym e ∙ opening in let same_b : b ≡ before.basis = cc in subst (λ (x : B). is_of x job) (moved.basis ∙ sym same_b) is.1, is.2)
      has_answer claim_of is_of (Busy n) is opening known = first_has None is
      has_answer claim_of is_of Settled is opening known = (first_has None (is.1 worker), (after.state, known, is.0, is.1))
      has_answer claim_of is_of NoMemory is opening known = first_has None is

    -- the seat's first worker gave its job up
    pub gave_back : (h : View B) → h ≡ holding v before.pairs → IsSame h w → v.first < v.end → w.seen ≡ after.pairs → GaveUp worker before after → GaveBack w
    gave_back h is held some seen gave =
        let same : IsSame v w = subst (λ (x : View B). IsSame x w) is held in
        record {
          log = before.pairs;
          worker = worker;
          code = gave.0;
          job = gave.1;
          seen = seen ∙ gave.2;
          gave = gave.3;
          low = omega (arith, same.3, first);
          high = omega (arith, same.4, some, first);
        }
