use Rattle.std.proofs.Common.{◌∙◌, sym, subst}
use Rattle.std.specs.Arc.{arc_value}
use Rattle.lt_run_trials.specs.Fitting.{FitsBoth}
use Rattle.lt_batch.proofs.Indexed.{each_item}
use Rattle.lt_run_trials.proofs.serial.runs_on.Goals as goal

pub one_run-requires-clause-fits : goal.one_run-requires-clause-fits
one_run-requires-clause-fits c =
    subst FitsBoth (sym (c.statements.ensures ∙ c.deref.ensures))
    (each_item FitsBoth arc_value c.args.progs.now c.loop-prog.prog-index c.prog-item.result c.loop-prog-test.true c.prog-item.is c.requires.fit)
