use Rattle.std.proofs.Common.{◌∙◌, refl, ap, sym, length}
use Rattle.std.specs.Prelude.{map}
use Rattle.lt_circuit.specs.declared.entry.Event.TheVariants.{Claim, Finish, Abandon}
use Rattle.lt_circuit.specs.Line.{line_event, line_state}
use Rattle.lt_circuit.specs.LineJob.{claim_of_line_job, claim_of_line_output}
use Rattle.lt_circuit.specs.LineShape.{line_shape, line_shape_net}
use Rattle.lt_circuit.proofs.LineOneJob.{line_given_up, line_ran, line_ran_free}
use Rattle.lt_circuit.proofs.OneJob.{few_two, later_two}
use Rattle.lt_circuit.proofs.OnWay.{alone_events_few}
use Rattle.lt_circuit.proofs.line.Line.run_if_pending.Goals as goal

pub returns-in-Ok-clause-ran : goal.returns-in-Ok-clause-ran
returns-in-Ok-clause-ran g c =
    line_ran g.W.LeafWork.does c.args.self.now c.claim_this.new.self c.in-Job.job c.args.code c.in-Job.ensures.0 c.in-Job.ensures.1
    (line_state c.finish.new.self) (claim_of_line_output c.in-Ok.output) c.in-Ok.ensures.line_claim c.finish.ensures.state

pub returns-in-Ok-clause-free : goal.returns-in-Ok-clause-free
returns-in-Ok-clause-free g c =
    line_ran_free g.W.LeafWork.does c.args.self.now c.claim_this.new.self c.in-Job.job c.args.code c.in-Job.ensures.0 c.in-Job.ensures.1
    (line_state c.finish.new.self) (claim_of_line_output c.in-Ok.output) c.in-Ok.ensures.line_claim c.finish.ensures.state c.requires.free

pub returns-in-Err-clause-free : goal.returns-in-Err-clause-free
returns-in-Err-clause-free g c =
    line_given_up g.W.LeafWork.does c.args.self.now c.claim_this.new.self c.in-Job.job c.args.code c.in-Job.ensures.0 c.in-Job.ensures.1
    (line_state c.abandon.new.self) (claim_of_line_job c.in-Err.job) c.abandon.ensures.state c.requires.free

pub returns-in-Ok-clause-later : goal.returns-in-Ok-clause-later
returns-in-Ok-clause-later g c =
    later_two line_event c.args.self.now.journal c.claim_this.new.self.journal c.finish.new.self.journal
    (record { worker = 0; job = (claim_of_line_job c.in-Job.job).job; event = Claim }) (record { worker = 0; job = (claim_of_line_output c.in-Ok.output).job; event = Finish }) refl refl c.in-Job.ensures.0.journal c.finish.ensures.journal

pub returns-in-Err-clause-later : goal.returns-in-Err-clause-later
returns-in-Err-clause-later g c =
    later_two line_event c.args.self.now.journal c.claim_this.new.self.journal c.abandon.new.self.journal
    (record { worker = 0; job = (claim_of_line_job c.in-Job.job).job; event = Claim }) (record { worker = 0; job = (claim_of_line_job c.in-Err.job).job; event = Abandon }) refl refl c.in-Job.ensures.0.journal c.abandon.ensures.journal

pub returns-in-Ok-clause-few : goal.returns-in-Ok-clause-few
returns-in-Ok-clause-few g c =
    let net = line_shape_net (line_shape g.W.LeafWork.does c.args.self.now) in
    alone_events_few net (line_state c.args.self.now) c.args.code (length (map line_event c.args.self.now.journal)) (length (map line_event c.finish.new.self.journal))
    (few_two line_event net (line_state c.args.self.now) c.args.code c.args.self.now.journal c.claim_this.new.self.journal c.finish.new.self.journal
    (record { worker = 0; job = (claim_of_line_job c.in-Job.job).job; event = Claim }) (record { worker = 0; job = (claim_of_line_output c.in-Ok.output).job; event = Finish })
    (sym (ap (line_state c.args.self.now).status c.in-Job.ensures.1) ∙ c.in-Job.ensures.0.pending) c.in-Job.ensures.0.journal c.finish.ensures.journal)

pub returns-in-Err-clause-few : goal.returns-in-Err-clause-few
returns-in-Err-clause-few g c =
    let net = line_shape_net (line_shape g.W.LeafWork.does c.args.self.now) in
    alone_events_few net (line_state c.args.self.now) c.args.code (length (map line_event c.args.self.now.journal)) (length (map line_event c.abandon.new.self.journal))
    (few_two line_event net (line_state c.args.self.now) c.args.code c.args.self.now.journal c.claim_this.new.self.journal c.abandon.new.self.journal
    (record { worker = 0; job = (claim_of_line_job c.in-Job.job).job; event = Claim }) (record { worker = 0; job = (claim_of_line_job c.in-Err.job).job; event = Abandon })
    (sym (ap (line_state c.args.self.now).status c.in-Job.ensures.1) ∙ c.in-Job.ensures.0.pending) c.in-Job.ensures.0.journal c.abandon.ensures.journal)
