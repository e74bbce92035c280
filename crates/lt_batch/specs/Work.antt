-- The work of batches that follow one another: its leaves are the programs.
use Rattle.std.specs.Prelude.{ℕ, ◌<◌, ◌≤◌, ◌/◌, ◌%◌, List, [], Option, length, if◌then◌else◌}
use Rattle.std.specs.List.{AllByRecursion, list_any}
use Rattle.lt_face.specs.Limits.{most_columns}
use Rattle.lt_face.specs.State.{State, Relation}
use Rattle.lt_model.specs.declared.normal.Stmt.{Stmt}
use Rattle.lt_model.specs.Fits.{Fits, FitMarks}
use Rattle.lt_model.specs.declared.reply.Reply.{Reply}
use Rattle.lt_model.specs.Marks.{Marks, AreMarks, laid}
use Rattle.lt_model.specs.Run.{run}
use Rattle.lt_model.specs.State.{IsState}
use Rattle.lt_base.specs.Tables.{Table, state_of}
use Rattle.lt_program.specs.Run.{reads_marked_in}
use Rattle.lt_program.specs.Tally.{HasIndexes}
use Rattle.lt_batch.specs.declared.leaf.LeafTally.{LeafTally}
use Rattle.lt_batch.specs.Batch.{program_at}
use Rattle.lt_batch.specs.Line.{batch_at, line_does}

-- a state that programs can run on: its relations are sets of rows with at most 8 cells
pub record IsSnapshot (state : State) : Type 0 where
  pub is_state : IsState state
  pub narrow : AllByRecursion (λ (relation : Relation). relation.width ≤ most_columns) state

-- programs that can run on it: each fits it
pub record AreRunnable (state : State) (programs : List (List Stmt)) : Type 0 where
  pub snapshot : IsSnapshot state
  pub fit : AllByRecursion (Fits state) programs

-- batches whose programs can run on it
pub record AreLineRunnable (state : State) (batches : List (List (List Stmt))) : Type 0 where
  pub snapshot : IsSnapshot state
  pub fit : AllByRecursion (AllByRecursion (Fits state)) batches

-- The snapshot that all programs start on, the programs, those of each batch, and batch after batch the tallies of those that were run on
-- the snapshot before.
pub record BatchView : Type 0 where
  pub snapshot : List Table
  pub programs : List (List Stmt)
  pub batches : List (List (List Stmt))
  pub early : List (List (Option LeafTally))

-- the programs can run on the snapshot, and it has the indexes that they need
pub record IsBatch (snapshot : List Table) (programs : List (List Stmt)) : Type 0 where
  pub runnable : AreRunnable (state_of snapshot) programs
  pub indexed : AllByRecursion (HasIndexes snapshot) programs

-- what of a correction is laid on the snapshot before a program: all of it, or nothing where the program reads no relation that
-- one of its marks is on
abbrev pub marks_for : List Stmt → Marks → Marks
marks_for program on = if list_any (reads_marked_in on) program then on else []

-- leaf 256 * s + i is program i of batch s
abbrev pub leaf_program : BatchView → ℕ → List Stmt
leaf_program work leaf = program_at (batch_at work.batches (leaf / 256)) (leaf % 256)

-- what it answers and writes where the correction is laid on the snapshot
abbrev pub leaf_run : BatchView → ℕ → Marks → Reply × Marks
leaf_run work leaf correction = run (leaf_program work leaf) (laid (state_of work.snapshot) correction)

-- what it writes there
abbrev pub batch_does : BatchView → ℕ → Marks → Marks
batch_does work = line_does work.batches (state_of work.snapshot)

-- marks that fit the snapshot, in their order
abbrev pub FitsBatch : BatchView → Marks → Type 0
FitsBatch work marks = FitMarks (state_of work.snapshot) marks × AreMarks marks

-- A leaf is a program of a batch. Its marks fit where the correction does.
pub record IsLeaf (work : BatchView) (leaf : ℕ) : Type 0 where
  pub below : leaf % 256 < length (batch_at work.batches (leaf / 256))
  pub fit : (correction : Marks) → FitsBatch work correction → FitsBatch work (batch_does work leaf correction)
