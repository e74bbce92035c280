use Rattle.lt_run_trials.proofs.joins.planned.Goals as goal

pub returns : goal.returns
returns c = record { stated = c.in_ok-plan.ensures.value; of_body = c.in_ok-plan.ensures.of_body; runnable = c.in_ok-plan.ensures.runnable c.requires.0 c.requires.2 }
