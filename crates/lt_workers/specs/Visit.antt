-- What one visit to a machine, in a turn, does.
use Rattle.std.specs.Prelude.{◌≡◌, ◌≢◌, ℕ, ◌<◌, ◌≤◌, ◌^◌, Option, Some, None}
use Rattle.lt_net.specs.Net.{Net, State, Claim as NetClaim, IsSettled}
use Rattle.lt_net.specs.Alone.{IsUnclaimed}
use Rattle.lt_circuit.specs.declared.claim.Claim.{Claim}
use Rattle.lt_circuit.specs.declared.claim.Claim.TheVariants.{Job, Busy, Settled, NoMemory}
use Rattle.lt_turn.specs.Journal.{Extends}
use Rattle.lt_turn.specs.declared.view.View.{View}
use Rattle.lt_workers.specs.Seen.{Stand, Grew, IsStanding, Knows, Claims, IsOfBasis}

-- the same numbers in the same turn, which the seat does not hold
abbrev pub IsSame : {O : Type 0} → View O → View O → Type 0
IsSame v w = (w.opening ≡ v.opening) × (w.begun ≡ v.begun) × (w.workers ≡ v.workers) × (w.first ≡ v.first) × (w.end ≡ v.end) × (w.taken ≡ None)

-- what an answer says of the machine that gave it to the worker: the worker's claim, and that it is settled, so that no claim stands
abbrev pub IsGiven : {B J : Type 0} → (J → NetClaim) → (B → J → Type 0) → Stand B → ℕ → Claim J → Type 0
IsGiven claim_of is_of s worker (Job job) = (s.state.claim worker ≡ Some (claim_of job)) × is_of s.basis job × ((claim_of job).job < 2 ^ 32)
IsGiven claim_of is_of s worker (Busy n) = s.state.claim worker ≡ None
IsGiven claim_of is_of s worker Settled = IsSettled s.state × IsUnclaimed s.state
IsGiven claim_of is_of s worker NoMemory = s.state.claim worker ≡ None

module _ {B : Type 0} (net_of : B → Net) where
  -- The machine that the seat found is the replay of its journal, in which what follows what the seat had seen has no entry
  -- of the seat's workers. The seat gave it back with one entry more, of its first worker, or none, and has seen that.
  pub record Visits (v w : View B) (before after : Stand B) : Type 0 where
    pub opening : v.opening ≡ Some before.basis
    pub extends : Extends v.first v.end v.seen before.pairs
    pub replayed : IsStanding net_of before
    pub grew : Grew v.first before.pairs after.pairs
    pub seen : w.seen ≡ after.pairs
    pub known : Knows net_of w after.state

  -- the machine that the seat found did this for the seat's first worker
  pub record Did {C : Type 0} (stand : C → Stand B) (did : C → C → ℕ → Type 0) (v w : View B) : Type 0 where
    pub before : C
    pub after : C
    pub visits : Visits v w (stand before) (stand after)
    pub says : did before after v.first

  -- the first worker has the job that was answered, or none
  abbrev pub HasAnswer : {J : Type 0} → (J → NetClaim) → (B → J → Type 0) → View B → Claim J → Type 0
  HasAnswer claim_of is_of v (Job job) = Claims net_of v v.first (Some (claim_of job)) × IsOfBasis v (λ b. is_of b job) × ((claim_of job).job < 2 ^ 32)
  HasAnswer claim_of is_of v (Busy n) = Claims net_of v v.first None
  HasAnswer claim_of is_of v Settled = Claims net_of v v.first None × ((s : State) × Knows net_of v s × IsSettled s × IsUnclaimed s)
  HasAnswer claim_of is_of v NoMemory = Claims net_of v v.first None

  -- the seat's other workers have the claims that they had
  abbrev pub KeepsOthers : View B → View B → Type 0
  KeepsOthers v w = (worker : ℕ) (claim : Option NetClaim) → v.first ≤ worker → worker < v.end → worker ≢ v.first → Claims net_of v worker claim → Claims net_of w worker claim
