-- The claims that jobs and outputs of a line are of.
use Rattle.lt_net.specs.Net.{Claim}
use Rattle.lt_circuit.specs.declared.task.Task.{Task}
use Rattle.lt_circuit.specs.declared.task.Done.{Done}
use Rattle.lt_circuit.specs.Job.{JobView, OutputView, done_inputs, done_name, done_prior, prior_correction, task_inputs, task_name, task_prior}
use Rattle.lt_circuit.specs.Line.{number_code}

abbrev pub line_task_claim : {T : Type 0} → Task T → Claim
line_task_claim task = record { job = number_code (task_name task); inputs = task_inputs task; prior = prior_correction (task_prior task) }

abbrev pub claim_of_line_job : {W T : Type 0} → JobView W T → Claim
claim_of_line_job j = line_task_claim j.task

abbrev pub line_done_claim : {T : Type 0} → Done T → Claim
line_done_claim did = record { job = number_code (done_name did); inputs = done_inputs did; prior = done_prior did }

abbrev pub claim_of_line_output : {W T : Type 0} → OutputView W T → Claim
claim_of_line_output o = line_done_claim o.did
