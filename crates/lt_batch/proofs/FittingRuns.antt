-- What a program that fits the snapshot does on a correction that fits, fits.
use Rattle.std.proofs.Common.{◌≤◌, List, [], ◌∷◌, sym}
use Rattle.std.specs.List.{AllByRecursion}
use Rattle.lt_face.specs.State.{Relation, State}
use Rattle.lt_face.proofs.RowLemmas.{each_weaker}
use Rattle.lt_model.specs.declared.normal.Stmt.{Stmt}
use Rattle.lt_model.specs.Fits.{Fits, FitMarks}
use Rattle.lt_model.specs.Marks.{Marks, laid}
use Rattle.lt_model.specs.Run.{run}
use Rattle.lt_model.specs.State.{IsState}
use Rattle.lt_model.specs.Laws.{Rises}
use Rattle.lt_delta.proofs.Kept.{IsState-laid}
use Rattle.lt_program.proofs.FittingRuns.{IsGoodEnd, run_fits}
use Rattle.lt_batch.specs.Work.{IsSnapshot, AreRunnable}
use Rattle.lt_batch.proofs.Widths.{as_wide-laid, program_fits, marks_fit}

pub rises : (state : State) → IsState state → Rises state
rises [] all = tt
rises (relation ∷ state) all = (all.0.rises, rises state all.1)

pub run_fits_snapshot : {programs : List (List Stmt)} (snapshot : State) (program : List Stmt) (correction : Marks) → AreRunnable snapshot programs → Fits snapshot program → FitMarks snapshot correction
    → IsGoodEnd snapshot (run program (laid snapshot correction))
run_fits_snapshot snapshot program correction can fits marks =
    let now = laid snapshot correction in
    let good = run_fits now program (IsState-laid snapshot correction can.snapshot.is_state marks) (program_fits snapshot now (λ r. sym (as_wide-laid snapshot correction r)) program fits) in
    (marks_fit now snapshot (as_wide-laid snapshot correction) (run program now).1 good.0, good.1)

-- ---- what a database tells of its relations

pub snapshot_of : (state : State) → IsState state → AllByRecursion (λ (relation : Relation). (1 ≤ relation.width) × (relation.width ≤ 8)) state → IsSnapshot state
snapshot_of state is wide = record {
  is_state = is;
  narrow = each_weaker (λ (relation : Relation). (1 ≤ relation.width) × (relation.width ≤ 8)) (λ (relation : Relation). relation.width ≤ 8) (λ relation h. h.1) state wide;
}
