-- What a leaf's older tally is for.
use Rattle.std.specs.Prelude.{ℕ, ◌&&◌, Bool, true, false, if◌then◌else◌, List, [], ◌∷◌, Option, Some, None}
use Rattle.lt_face.specs.State.{State}
use Rattle.lt_model.specs.declared.normal.Stmt.{Stmt}
use Rattle.lt_model.specs.Fits.{FitMarks}
use Rattle.lt_model.specs.Marks.{Marks, laid}
use Rattle.lt_base.specs.Tables.{state_of}
use Rattle.lt_program.specs.Tally.{TallyView, cost_of_first, ends_at}
use Rattle.lt_restate.specs.declared.touch.Touch.{Touch}
use Rattle.lt_restate.specs.Touches.{AreTouches, cost_again}
use Rattle.lt_batch.specs.declared.leaf.LeafTally.{LeafTally}
use Rattle.lt_batch.specs.Early.{early_at}
use Rattle.lt_batch.specs.LeafRun.{IsRunOn}
use Rattle.lt_batch.specs.Work.{BatchView, leaf_program, marks_for}

-- a whole run of the program on the snapshot, with some marks laid on it that fit it
abbrev pub IsPriorOf : List Stmt → State → LeafTally → Type 0
IsPriorOf program snapshot old = (on : Marks) × FitMarks snapshot on × IsRunOn program snapshot on old

-- what the touches of a restatement say of the two runs
abbrev pub IsRestated : TallyView → TallyView → Type 0
IsRestated old new = (touches : List Touch) × AreTouches old new touches

-- the new tally is the old one restated
abbrev pub IsRestatedFrom : LeafTally → LeafTally → Type 0
IsRestatedFrom old new = IsRestated old.run new.run

-- the tally that a leaf restates: its prior, and without one its early run, if there is one
abbrev pub helper : (early prior : Option LeafTally) → Option LeafTally
helper early None = early
helper early (Some old) = Some old

-- no mark is laid
abbrev pub is_unlaid : Marks → Bool
is_unlaid [] = true
is_unlaid (mark ∷ marks) = false

-- The moves that a run of the program takes at most on the snapshot with the marks laid on it. Where an older run is there, those of its
-- restatement: none where nothing was laid and nothing is to be. Else those of all statements up to where it ends.
abbrev pub run_bound : Option LeafTally → List Stmt → State → Marks → ℕ
run_bound None program snapshot on = cost_of_first (ends_at program (laid snapshot on)) program (laid snapshot on)
run_bound (Some old) program snapshot on =
    if is_unlaid old.on && is_unlaid on then 0 else cost_again old.run (laid snapshot on) (ends_at program (laid snapshot on))

-- the moves that the leaf takes at most
abbrev pub leaf_bound : BatchView → Option LeafTally → ℕ → Marks → Option ℕ
leaf_bound work prior leaf on =
    Some (run_bound (helper (early_at work.early leaf) prior) (leaf_program work leaf) (state_of work.snapshot) (marks_for (leaf_program work leaf) on))
