use Rattle.std.proofs.Common.{◌∙◌, ap}
use Rattle.lt_base.specs.Tables.{Table, state_of}
use Rattle.lt_run_trials.proofs.Fitting.{both_marked}
use Rattle.lt_run_trials.proofs.texts.marked.Goals as goal

pub returns : goal.returns
returns c = both_marked (state_of c.args.base.now) (state_of c.in_ok-db.db) (state_of c.lay.new.self) c.args.marks.now (ap state_of c.in_ok-db.ensures) c.in_ok-lay.ensures.state c.requires.both
