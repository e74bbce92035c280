-- What a leaf's tally stands for.
use Rattle.std.specs.Prelude.{◌≡◌, ℕ, true, List}
use Rattle.lt_face.specs.State.{State}
use Rattle.lt_model.specs.declared.normal.Stmt.{Stmt}
use Rattle.lt_model.specs.Marks.{Marks, laid}
use Rattle.lt_model.specs.Run.{run as run_of}
use Rattle.lt_base.specs.Tables.{state_of}
use Rattle.lt_program.specs.Tally.{TallyView, IsRun, has_ended}
use Rattle.lt_batch.specs.declared.leaf.LeafTally.{LeafTally}
use Rattle.lt_batch.specs.Work.{BatchView, leaf_program, leaf_run, marks_for}

-- the whole run of the program on the snapshot with these marks laid on it
pub record IsTallyOn (prog : List Stmt) (snapshot : State) (on : Marks) (run : TallyView) : Type 0 where
  pub program : run.program ≡ prog
  pub base : state_of run.base ≡ laid snapshot on
  pub is_run : IsRun run
  pub ended : has_ended run ≡ true
  pub reply : run.reply ≡ (run_of prog (laid snapshot on)).0
  pub marks : run.marks ≡ (run_of prog (laid snapshot on)).1

-- such a run, kept with the marks that were laid
pub record IsRunOn (prog : List Stmt) (snapshot : State) (on : Marks) (tally : LeafTally) : Type 0 where
  pub run : IsTallyOn prog snapshot on tally.run
  pub same_on : tally.on ≡ on

-- What the leaf's program answers and writes on the snapshot with the correction laid on it. The tally is of the run there; a program that
-- reads no relation that the correction has a mark on is as well run on the snapshot itself.
pub record StandsFor (work : BatchView) (tally : LeafTally) (leaf : ℕ) (on : Marks) : Type 0 where
  pub ran : IsRunOn (leaf_program work leaf) (state_of work.snapshot) (marks_for (leaf_program work leaf) on) tally
  pub reply : tally.run.reply ≡ (leaf_run work leaf on).0
  pub marks : tally.run.marks ≡ (leaf_run work leaf on).1
