-- Runs on the snapshot itself that are made before a circuit or a line starts.
use Rattle.std.specs.Prelude.{ℕ, ◌/◌, ◌%◌, List, [], Option, None, slice_index_or, IfSome}
use Rattle.lt_face.specs.State.{State}
use Rattle.lt_model.specs.declared.normal.Stmt.{Stmt}
use Rattle.lt_base.specs.Tables.{Table, state_of}
use Rattle.lt_batch.specs.declared.leaf.LeafTally.{LeafTally}
use Rattle.lt_batch.specs.declared.spans.Span.{Span}
use Rattle.lt_batch.specs.Batch.{program_at}
use Rattle.lt_batch.specs.LeafRun.{IsRunOn}
use Rattle.lt_batch.specs.Spans.{AreWithin}
use Rattle.lt_batch.specs.Work.{IsBatch}

-- the early run of the program at the place, if there is one
abbrev pub early_of : List (Option LeafTally) → ℕ → Option LeafTally
early_of early place = slice_index_or early place None

-- that of a leaf: leaf 256 * s + i is program i of batch s
abbrev pub early_at : List (List (Option LeafTally)) → ℕ → Option LeafTally
early_at early leaf = early_of (slice_index_or early (leaf / 256) []) (leaf % 256)

-- each early run is its program's, on the snapshot itself
abbrev pub AreEarly : State → List (List Stmt) → List (Option LeafTally) → Type 0
AreEarly snapshot programs early = (i : ℕ) → IfSome (early_of early i) (IsRunOn (program_at programs i) snapshot [])

-- the programs can run on the snapshot, which has the indexes that they need, the early runs are theirs, and no batch goes past the last
-- program that there may be
pub record IsBegun (snapshot : List Table) (programs : List (List Stmt)) (runs : List (Option LeafTally)) (spans : List Span) : Type 0 where
  pub batch : IsBatch snapshot programs
  pub early : AreEarly (state_of snapshot) programs runs
  pub within : AreWithin spans 2048
