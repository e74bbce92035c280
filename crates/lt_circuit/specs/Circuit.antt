-- What a contract sees of a circuit, and what holds of each.
use Rattle.std.specs.Prelude.{◌≡◌, ℕ, ◌+◌, ◌≤◌, ◌<◌, false, List, map, Option, Some, None, length, slice_index_or}
use Rattle.std.specs.List.{AllByRecursion}
use Rattle.lt_face.specs.Limits.{most_programs, most_workers}
use Rattle.lt_model.specs.declared.mark.Mark.{Mark}
use Rattle.lt_net.specs.declared.job.JobName.TheVariants.{Leaf}
use Rattle.lt_net.specs.Net.{State, is_held, replay, opening}
use Rattle.lt_net.specs.Tree.{circuit_net, tree_of}
use Rattle.lt_net.specs.Codes.{code_of}
use Rattle.lt_circuit.specs.Board.{BoardView, state_of, standing}
use Rattle.lt_circuit.specs.declared.entry.Entry.{Entry}
use Rattle.lt_circuit.specs.Entry.{event_of}
use Rattle.lt_circuit.specs.declared.task.Prior.{Prior}

-- The tallies are per leaf. While a worker holds the leaf's job, the leaf's tally is with it.
pub record CircuitView (W T : Type 0) : Type 0 where
  pub work : W
  pub board : BoardView
  pub journal : List Entry
  pub tallies : List (Option (Prior T))

abbrev pub state : {W T : Type 0} → CircuitView W T → State
state c = state_of c.board

-- the circuit is the replay of its journal. `does` is what the work's leaves do
abbrev pub IsReplay : (ℕ → List Mark → List Mark) → BoardView → List Entry → Type 0
IsReplay does board journal =
    replay (circuit_net does (tree_of board.leaves)) (Some (opening (circuit_net does (tree_of board.leaves)))) (map event_of journal) ≡ Some (state_of board)

-- each event is of a worker that there may be
abbrev pub AreOfWorkers : List Entry → Type 0
AreOfWorkers journal = AllByRecursion (λ (e : Entry). e.worker < most_workers) journal

-- The tally at a place stands for the leaf on the correction that it last finished with. `code` is the code of a leaf's job.
pub record IsTally {T : Type 0} (code : ℕ → ℕ) (stands_for : T → ℕ → List Mark → Type 0) (fits : List Mark → Type 0) (s : State) (leaf : ℕ) (p : Prior T) : Type 0 where
  pub last : s.done (code leaf) ≡ Some p.correction
  pub fit : fits p.correction
  pub stands : stands_for p.tally leaf p.correction

-- Each tally is its leaf's, and a leaf that has finished and isn't held has one. A leaf that is held has its tally with its worker.
pub record AreTallies {T : Type 0} (code : ℕ → ℕ) (stands_for : T → ℕ → List Mark → Type 0) (fits : List Mark → Type 0) (s : State) (tallies : List (Option (Prior T))) : Type 0 where
  pub each : (i : ℕ) (p : Prior T) → slice_index_or tallies i None ≡ Some p → IsTally code stands_for fits s i p
  pub there : (i : ℕ) (c : List Mark) → s.done (code i) ≡ Some c → is_held (s.status (code i)) ≡ false → (p : Prior T) × (slice_index_or tallies i None ≡ Some p)

-- the code of a leaf's job in a circuit
abbrev pub leaf_code : ℕ → ℕ
leaf_code i = code_of (Leaf i)

-- What holds of a circuit's fields.
pub record IsCircuit {T : Type 0} (does : ℕ → List Mark → List Mark) (stands_for : T → ℕ → List Mark → Type 0) (fits : List Mark → Type 0) (has : ℕ → Type 0)
    (board : BoardView) (journal : List Entry) (tallies : List (Option (Prior T))) (used capacity : ℕ) : Type 0 where
  pub replayed : IsReplay does board journal
  pub workers : AreOfWorkers journal
  pub few : board.leaves ≤ most_programs
  pub leaves_there : (i : ℕ) → i < board.leaves → has i
  pub tallies_long : length tallies ≡ board.leaves
  pub are_tallies : AreTallies leaf_code stands_for fits (state_of board) tallies
  -- the journal has room for the end of each claim
  pub room : used + standing board.claims ≤ capacity
