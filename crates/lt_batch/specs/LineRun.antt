-- A line over batches, of which the first segments are done.
use Rattle.std.specs.Prelude.{◌≡◌, ◌≤◌, ℕ, List, map, length}
use Rattle.std.specs.List.{AllByRecursion}
use Rattle.lt_face.specs.Limits.{most_programs}
use Rattle.lt_model.specs.declared.normal.Stmt.{Stmt}
use Rattle.lt_base.specs.Tables.{state_of}
use Rattle.lt_net.specs.Line.{IsPast, IsSerialBelow}
use Rattle.lt_circuit.specs.Line.{LineView, line_state}
use Rattle.lt_circuit.specs.Row.{most_segments, sizes}
use Rattle.lt_batch.specs.Work.{AreLineRunnable, BatchView, batch_does}

-- The segments are the batches of the work, whose programs can run on its snapshot.
pub record IsOverBatches (work : BatchView) (leaves : List ℕ) : Type 0 where
  pub runnable : AreLineRunnable (state_of work.snapshot) work.batches
  pub few : AllByRecursion (λ (programs : List (List Stmt)). length programs ≤ most_programs) work.batches
  pub segments : leaves ≡ map length work.batches
  pub short : length work.batches ≤ most_segments

-- The front has passed the first f of them, each of whose leaves did what it does on the effects of all before it.
pub record IsRunBelow {T : Type 0} (f : ℕ) (line : LineView BatchView T) : Type 0 where
  pub over : IsOverBatches line.work (sizes line.row)
  pub short : f ≤ length line.work.batches
  pub past : IsPast f (line_state line)
  pub serial : IsSerialBelow (batch_does line.work) (sizes line.row) f (line_state line)
