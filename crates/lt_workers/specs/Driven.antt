-- What a seat knows once its workers have ended.
use Rattle.std.specs.Prelude.{◌≡◌, ◌≢◌, ℕ, ◌<◌, ◌≤◌, List, [], ◌∷◌, ◌++◌, Option, None, IfSome}
use Rattle.lt_net.specs.Net.{Net, State, IsSettled, Abandons}
use Rattle.lt_net.specs.Alone.{IsUnclaimed}
use Rattle.lt_turn.specs.declared.view.View.{View}
use Rattle.lt_workers.specs.declared.driving.Ended.{Ended}
use Rattle.lt_workers.specs.declared.driving.Ended.TheVariants.{Settled, NoMemory, Spared}
use Rattle.lt_workers.specs.Seen.{event_for, Knows, Claims, AreFree}
use Rattle.lt_workers.specs.Visit.{IsSame}

-- the last that the seat has seen is that one of its workers gave a job back
pub record GaveBack {O : Type 0} (v : View O) : Type 0 where
  pub log : List (ℕ × ℕ)
  pub worker : ℕ
  pub code : ℕ
  pub job : ℕ
  pub seen : v.seen ≡ log ++ (worker, code) ∷ []
  pub gave : event_for (worker, code) ≡ Abandons worker job
  pub low : v.first ≤ worker
  pub high : worker < v.end

module _ {B : Type 0} (net_of : B → Net) where
  -- what the seat has seen is legal, and settled without a claim where that is the answer; spared is a seat without the first worker that gave back
  abbrev pub EndsAt : View B → Ended → Type 0
  EndsAt v Settled = (s : State) × Knows net_of v s × IsSettled s × IsUnclaimed s
  EndsAt v NoMemory = (s : State) × Knows net_of v s
  EndsAt v Spared = (s : State) × Knows net_of v s × (0 < v.first) × GaveBack v

  -- none of the workers but the first has a claim
  abbrev pub AreOthersFree : View B → Type 0
  AreOthersFree v = (worker : ℕ) → v.first ≤ worker → worker < v.end → worker ≢ v.first → Claims net_of v worker None

  -- the same seat has seen more, and none of its workers has a claim
  pub record Continues (v w : View B) : Type 0 where
    pub same : IsSame v w
    pub later : (rest : List (ℕ × ℕ)) × (w.seen ≡ v.seen ++ rest)
    pub free : AreFree net_of w

  -- and it may have ended
  abbrev pub Goes : View B → View B → Option Ended → Type 0
  Goes v w answer = Continues v w × IfSome answer (EndsAt w)

  -- and it has ended
  abbrev pub Drives : View B → View B → Ended → Type 0
  Drives v w answer = Continues v w × EndsAt w answer

-- settled where one of two parts ended so, else spared only where both were
abbrev pub either_of : Ended → Ended → Ended
either_of Settled other = Settled
either_of NoMemory Settled = Settled
either_of NoMemory NoMemory = NoMemory
either_of NoMemory Spared = NoMemory
either_of Spared other = other
