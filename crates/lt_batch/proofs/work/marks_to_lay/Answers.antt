use Rattle.std.proofs.Common.{sym, ap, subst}
use Rattle.lt_model.specs.Fits.{FitMarks}
use Rattle.lt_model.specs.Marks.{Marks, laid}
use Rattle.lt_model.specs.Run.{run}
use Rattle.lt_batch.proofs.Runs.{lays_all, lays_none, runs_none}
use Rattle.lt_batch.proofs.work.marks_to_lay.Goals as goal

pub returns-in_ok-all-clause-marks : goal.returns-in_ok-all-clause-marks
returns-in_ok-all-clause-marks c = lays_all c.args.prog.now c.statements.result.now c.args.correction.now c.in_ok-all.all c.reads_marked.result c.statements.ensures c.reads_marked.ensures.value c.if-reads_marked.true c.in_ok-all.ensures

pub returns-in_ok-all-clause-run : goal.returns-in_ok-all-clause-run
returns-in_ok-all-clause-run c = λ s. ap (λ (m : Marks). run c.args.prog.now (laid s m)) c.in_ok-all.ensures

pub returns-in_ok-all-clause-fits : goal.returns-in_ok-all-clause-fits
returns-in_ok-all-clause-fits c = λ s fit. subst (FitMarks s) (sym c.in_ok-all.ensures) fit

pub returns-in_ok-none-clause-marks : goal.returns-in_ok-none-clause-marks
returns-in_ok-none-clause-marks c = lays_none c.args.prog.now c.statements.result.now c.args.correction.now c.in_ok-none.none c.reads_marked.result c.statements.ensures c.reads_marked.ensures.value c.if-reads_marked.false c.in_ok-none.ensures

pub returns-in_ok-none-clause-run : goal.returns-in_ok-none-clause-run
returns-in_ok-none-clause-run c = runs_none c.args.prog.now c.statements.result.now c.args.correction.now c.in_ok-none.none c.statements.ensures (c.reads_marked.ensures.same c.if-reads_marked.false) c.in_ok-none.ensures

pub returns-in_ok-none-clause-fits : goal.returns-in_ok-none-clause-fits
returns-in_ok-none-clause-fits c = λ s fit. subst (FitMarks s) (sym c.in_ok-none.ensures) tt
