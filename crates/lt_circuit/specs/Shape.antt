-- What a circuit is over, and journals that one worker goes on with.
use Rattle.std.specs.Prelude.{◌≡◌, ℕ, List, ◌++◌}
use Rattle.std.specs.List.{AllByRecursion}
use Rattle.lt_model.specs.declared.mark.Mark.{Mark}
use Rattle.lt_net.specs.Net.{Net, Event, Claims, Finishes, Abandons}
use Rattle.lt_net.specs.Alone.{net_over}
use Rattle.lt_circuit.specs.Circuit.{CircuitView}

-- what a circuit is over: a work, what its leaves do, and how many there are
pub record Shape (W : Type 0) : Type 0 where
  pub work : W
  pub effect : ℕ → List Mark → List Mark
  pub leaves : ℕ

abbrev pub shape : {W T : Type 0} → (W → ℕ → List Mark → List Mark) → CircuitView W T → Shape W
shape does c = record { work = c.work; effect = does c.work; leaves = c.board.leaves }

abbrev pub shape_net : {W : Type 0} → Shape W → Net
shape_net shape = net_over shape.effect shape.leaves

-- who did it
abbrev pub worker_of : Event → ℕ
worker_of (Claims w j) = w
worker_of (Finishes w j) = w
worker_of (Abandons w j) = w

-- the journal goes on, with events of this worker alone
pub record IsLaterBy (worker : ℕ) (old new : List Event) : Type 0 where
  pub more : List Event
  pub is : new ≡ old ++ more
  pub by : AllByRecursion (λ e. worker_of e ≡ worker) more
