-- Journals that were written down.
use Rattle.std.specs.Prelude.{◌≡◌, ◌⊎◌, ◌<◌, ◌+◌, ℕ, List, map, take, length, slice_get, Some, None}
use Rattle.std.specs.List.{AllByRecursion}
use Rattle.lt_face.specs.Limits.{most_workers}
use Rattle.lt_face.specs.State.{State as Relations}
use Rattle.lt_model.specs.declared.normal.Stmt.{Stmt}
use Rattle.lt_net.specs.Net.{Net, State, Event, IsReached, IsSettled, step}
use Rattle.lt_net.specs.Tree.{circuit_net, tree_of}
use Rattle.lt_circuit.specs.Entry.{coded_event, entry_code}
use Rattle.lt_circuit.specs.declared.entry.Entry.{Entry}
use Rattle.lt_batch.specs.Batch.{does_at}
use Rattle.lt_batch.specs.declared.replaying.Written.{Written}

-- the machine of a batch, with a leaf for each program
abbrev pub batch_net : List (List Stmt) → Relations → Net
batch_net programs snapshot = circuit_net (does_at programs snapshot) (tree_of (length programs))

-- the entry as it is written down
abbrev pub written_of : Entry → Written
written_of e = record { worker = e.worker; code = entry_code e }

-- the event that it tells
abbrev pub told : Written → Event
told entry = coded_event entry.worker entry.code

-- Each entry is of a worker that there may be, and is legal where those before it lead. All of them lead to the state.
pub record LeadTo (net : Net) (entries : List Written) (s : State) : Type 0 where
  pub workers : AllByRecursion (λ (entry : Written). entry.worker < most_workers) entries
  pub reached : IsReached net (map told entries) s

-- the entry isn't legal on the state: it is of no worker that there may be, or the machine doesn't take its event
abbrev pub IsIllegal : Net → State → Written → Type 0
IsIllegal net s entry = entry.worker < most_workers → step net s (told entry) ≡ None

-- Entry e, from 1, is the first that isn't legal. Or all are legal, they don't lead to a settled state, and e is one more than there are.
abbrev pub IsFault : Net → List Written → ℕ → Type 0
IsFault net entries e = (n : ℕ) × (s : State) × (e ≡ n + 1) × LeadTo net (take n entries) s
    × (((entry : Written) × (slice_get entries n ≡ Some entry) × IsIllegal net s entry) ⊎ ((n ≡ length entries) × (IsSettled s → ⊥)))
