-- What a seat knows of a machine that workers hand on: the replay of the journal that it has seen.
use Rattle.std.specs.Prelude.{◌≡◌, ◌≢◌, ℕ, ◌<◌, ◌≤◌, ◌⊎◌, List, [], ◌∷◌, ◌++◌, map, Option, Some, None}
use Rattle.lt_net.specs.Net.{Net, State, Event, Abandons, Claim, replay, opening}
use Rattle.lt_net.specs.Alone.{IsUnclaimed}
use Rattle.lt_circuit.specs.Entry.{coded_event}
use Rattle.lt_turn.specs.declared.view.View.{View}

-- the event that an entry tells
abbrev pub event_for : ℕ × ℕ → Event
event_for p = coded_event p.0 p.1

-- a machine as it stands: what it is over, its entries as the turn sees them, each a worker and a code, and its state
pub record Stand (B : Type 0) : Type 0 where
  pub basis : B
  pub pairs : List (ℕ × ℕ)
  pub state : State

-- the journal is as it was, or has one entry more, the worker's
abbrev pub Grew : ℕ → List (ℕ × ℕ) → List (ℕ × ℕ) → Type 0
Grew worker old new = (new ≡ old) ⊎ ((code : ℕ) × (new ≡ old ++ (worker, code) ∷ []))

-- the worker's one entry more tells that it gave a job up
abbrev pub GaveUp : {B : Type 0} → ℕ → Stand B → Stand B → Type 0
GaveUp worker old new = (code : ℕ) × (job : ℕ) × (new.pairs ≡ old.pairs ++ (worker, code) ∷ []) × (event_for (worker, code) ≡ Abandons worker job)

module _ {B : Type 0} (net_of : B → Net) where
  -- the state to which the journal leads from the opening, where all its events are legal
  abbrev pub reached : Option B → List (ℕ × ℕ) → Option State
  reached None log = None
  reached (Some b) log = replay (net_of b) (Some (opening (net_of b))) (map event_for log)

  -- the machine is the replay of its journal
  abbrev pub IsStanding : Stand B → Type 0
  IsStanding s = reached (Some s.basis) s.pairs ≡ Some s.state

  -- what one call of a worker does: it adds an entry of the worker's or none, and changes no other worker's claim
  pub record IsMove (worker : ℕ) (old new : Stand B) : Type 0 where
    pub before : IsStanding old
    pub after : IsStanding new
    pub basis : new.basis ≡ old.basis
    pub grew : Grew worker old.pairs new.pairs
    pub others : (v : ℕ) → v ≢ worker → new.state.claim v ≡ old.state.claim v

  -- the seat knows that the state is this one
  abbrev pub Knows : View B → State → Type 0
  Knows v s = reached v.opening v.seen ≡ Some s

  -- it knows some state
  abbrev pub IsKnown : View B → Type 0
  IsKnown v = (s : State) × Knows v s

  -- as far as the seat knows, this is what the worker has claimed
  abbrev pub Claims : View B → ℕ → Option Claim → Type 0
  Claims v worker claim = (s : State) → Knows v s → s.claim worker ≡ claim

  -- none of its workers has a claim
  abbrev pub AreFree : View B → Type 0
  AreFree v = (worker : ℕ) → v.first ≤ worker → worker < v.end → Claims v worker None

  -- no claim stood when the turn began
  abbrev pub BeginsFree : View B → Type 0
  BeginsFree v = (s : State) → reached v.opening v.begun ≡ Some s → IsUnclaimed s

-- this holds of what all seats have in common
abbrev pub IsOfBasis : {B : Type 0} → View B → (B → Type 0) → Type 0
IsOfBasis {B} v is_of = (b : B) → v.opening ≡ Some b → is_of b
