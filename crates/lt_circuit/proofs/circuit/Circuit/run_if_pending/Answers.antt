use Rattle.std.proofs.Common.{refl, ◌∙◌}
use Rattle.lt_net.specs.Codes.{code_of}
use Rattle.lt_circuit.specs.declared.entry.Event.TheVariants.{Claim, Finish, Abandon}
use Rattle.lt_circuit.specs.Circuit.{state}
use Rattle.lt_circuit.specs.Entry.{event_of}
use Rattle.lt_circuit.specs.Job.{claim_of_job, claim_of_output, name_of_job, name_of_output}
use Rattle.lt_circuit.proofs.OneJob.{ran_is, ran_free, given_up, later_two}
use Rattle.lt_circuit.proofs.circuit.Circuit.run_if_pending.Goals as goal

pub returns-in-Ok-clause-ran : goal.returns-in-Ok-clause-ran
returns-in-Ok-clause-ran g c =
    ran_is g.W.LeafWork.does c.args.self.now c.claim_this.new.self c.in-Job.job (code_of c.args.name) c.in-Job.ensures.0 (c.in-Job.ensures.1 ∙ c.code.ensures)
    (state c.finish.new.self) (claim_of_output c.in-Ok.output) c.in-Ok.ensures.claim c.finish.ensures.state

pub returns-in-Ok-clause-free : goal.returns-in-Ok-clause-free
returns-in-Ok-clause-free g c =
    ran_free g.W.LeafWork.does c.args.self.now c.claim_this.new.self c.in-Job.job (code_of c.args.name) c.in-Job.ensures.0 (c.in-Job.ensures.1 ∙ c.code.ensures)
    (state c.finish.new.self) (claim_of_output c.in-Ok.output) c.in-Ok.ensures.claim c.finish.ensures.state c.requires.free

pub returns-in-Err-clause-free : goal.returns-in-Err-clause-free
returns-in-Err-clause-free g c =
    given_up g.W.LeafWork.does c.args.self.now c.claim_this.new.self c.in-Job.job (code_of c.args.name) c.in-Job.ensures.0 (c.in-Job.ensures.1 ∙ c.code.ensures)
    (state c.abandon.new.self) (claim_of_job c.in-Err.job) c.abandon.ensures.state c.requires.free

pub returns-in-Ok-clause-later : goal.returns-in-Ok-clause-later
returns-in-Ok-clause-later g c =
    later_two event_of c.args.self.now.journal c.claim_this.new.self.journal c.finish.new.self.journal
    (record { worker = 0; job = name_of_job c.in-Job.job; event = Claim }) (record { worker = 0; job = name_of_output c.in-Ok.output; event = Finish }) refl refl c.in-Job.ensures.0.journal c.finish.ensures.journal

pub returns-in-Err-clause-later : goal.returns-in-Err-clause-later
returns-in-Err-clause-later g c =
    later_two event_of c.args.self.now.journal c.claim_this.new.self.journal c.abandon.new.self.journal
    (record { worker = 0; job = name_of_job c.in-Job.job; event = Claim }) (record { worker = 0; job = name_of_job c.in-Err.job; event = Abandon }) refl refl c.in-Job.ensures.0.journal c.abandon.ensures.journal
