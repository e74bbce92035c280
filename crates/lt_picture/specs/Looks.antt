-- What came of a claim.
use Rattle.std.specs.Prelude.{ℕ, List, Bool, Option, None, if◌then◌else◌, slice_get}
use Rattle.lt_net.specs.declared.job.JobName.{JobName}
use Rattle.lt_net.specs.declared.job.JobName.TheVariants as jobs
use Rattle.lt_circuit.specs.declared.entry.Event.{Event}
use Rattle.lt_circuit.specs.declared.entry.Event.TheVariants.{Claim, Finish, Abandon}
use Rattle.lt_picture.specs.declared.batch.Look.{Look}
use Rattle.lt_picture.specs.declared.batch.Look.TheVariants as looks

-- a program's run, where it ran before or didn't
abbrev pub run_look : Bool → Look
run_look ran = if ran then looks.Again else looks.Run

-- a job that was done
abbrev pub done_look : (ran : ℕ → Bool) → JobName → Look
done_look ran (jobs.Leaf program) = run_look (ran program)
done_look ran (jobs.Merge node) = looks.Merge
done_look ran (jobs.Correct node) = looks.Correct
done_look ran (jobs.Pass segment) = looks.Correct

-- a job whose claim ended so
abbrev pub look_by : (ran : ℕ → Bool) → JobName → Event → Look
look_by ran job Claim = done_look ran job
look_by ran job Finish = done_look ran job
look_by ran job Abandon = looks.GivenBack

-- the name of a job's program, where the names of the programs stand in order
abbrev pub name_by : {Name : Type 0} → List Name → JobName → Option Name
name_by names (jobs.Leaf program) = slice_get names program
name_by names (jobs.Merge node) = None
name_by names (jobs.Correct node) = None
name_by names (jobs.Pass segment) = None
