use Rattle.std.proofs.Common.{◌∙◌, ap}
use Rattle.lt_base.specs.Tables.{state_of}
use Rattle.lt_run_trials.proofs.restatement.ran.Goals as goal

pub returns-clause-base : goal.returns-clause-base
returns-clause-base c = ap state_of c.in_ok-tally.ensures.base ∙ c.in_ok-base.ensures.state
