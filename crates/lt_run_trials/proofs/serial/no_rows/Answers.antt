use Rattle.lt_run_trials.proofs.Fitting.{no_rows}
use Rattle.lt_run_trials.proofs.serial.no_rows.Goals as goal

pub returns : goal.returns
returns c = rw (c.in_ok-push-2.ensures.items, c.in_ok-push.ensures.items, c.new-relations.ensures.items, c.new.ensures, c.new-2.ensures) no_rows
