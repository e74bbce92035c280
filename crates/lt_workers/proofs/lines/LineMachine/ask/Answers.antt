use Rattle.lt_workers.proofs.Machines.{line_asked, line_given}
use Rattle.lt_workers.proofs.lines.LineMachine.ask.Goals as goal

pub returns-clause-moved : goal.returns-clause-moved
returns-clause-moved g c = line_asked g.W.LeafWork.does c.args.self.now c.claim-answer.new.self c.args.worker c.claim-answer.result c.journal-before.ensures.replay c.journal-after.ensures.replay c.claim-answer.ensures.answer

pub returns-clause-given : goal.returns-clause-given
returns-clause-given g c = line_given g.W.LeafWork.does c.args.self.now c.claim-answer.new.self c.args.worker c.claim-answer.result c.segment_count-segments.ensures.sizes c.journal-before.ensures.replay c.requires.free c.claim-answer.ensures.answer c.claim-answer.ensures.coded
