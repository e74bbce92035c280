-- What a batch's circuit gave.
use Rattle.std.specs.Prelude.{◌≡◌, List, length}
use Rattle.std.specs.List.{AllByRecursion}
use Rattle.lt_face.specs.State.{State}
use Rattle.lt_model.specs.declared.normal.Stmt.{Stmt}
use Rattle.lt_model.specs.Fits.{FitMarks}
use Rattle.lt_base.specs.Tables.{state_of}
use Rattle.lt_batch.specs.declared.outcome.Outcome.{Outcome}
use Rattle.lt_batch.specs.Batch.{does_at, serial_effects, serial_replies, serial_state}
use Rattle.lt_circuit.specs.Circuit.{state, AreOfWorkers, CircuitView, IsReplay}
use Rattle.lt_net.specs.Net.{IsSettled}
use Rattle.lt_program.specs.Run.{AreReplied}

-- the circuit has a leaf for each of the programs, its journal replays to it, and it is settled
pub record HasSettled {W T : Type 0} (programs : List (List Stmt)) (snapshot : State) (circuit : CircuitView W T) : Type 0 where
  pub leaves : circuit.board.leaves ≡ length programs
  pub settled : IsSettled (state circuit)
  pub journal : IsReplay (does_at programs snapshot) circuit.board circuit.journal
  pub workers : AreOfWorkers circuit.journal

-- the programs ran on the snapshot, and gave what they give one after another
pub record IsOutcome (programs : List (List Stmt)) (snapshot : State) (outcome : Outcome) : Type 0 where
  pub replies : outcome.replies ≡ serial_replies programs snapshot
  pub effects : outcome.effects ≡ serial_effects programs snapshot
  pub state_is : state_of outcome.db ≡ serial_state programs snapshot
  pub printed : AllByRecursion AreReplied outcome.replies
  pub fit : AllByRecursion (FitMarks snapshot) outcome.effects
  pub circuit : HasSettled programs snapshot outcome.circuit
