use Rattle.lt_base.specs.Tables.{state_of}
use Rattle.lt_model.specs.Marks.{laid}
use Rattle.lt_program.proofs.SplitCosts.{statement_least}
use Rattle.lt_program.proofs.course.Course.evaluate.Goals as goal

pub returns-in_ok-evaluate_alone-clause-cost : goal.returns-in_ok-evaluate_alone-clause-cost
returns-in_ok-evaluate_alone-clause-cost g c = statement_least (g.J.Joiner.most c.args.by.now) c.requires.least c.args.stmt.now (laid (state_of c.args.base.now) c.args.self.now.marks) c.args.moves.now c.evaluate_alone.new.moves c.evaluate_alone.ensures.cost

pub returns-in_err-evaluate_alone-clause-cost : goal.returns-in_err-evaluate_alone-clause-cost
returns-in_err-evaluate_alone-clause-cost g c = statement_least (g.J.Joiner.most c.args.by.now) c.requires.least c.args.stmt.now (laid (state_of c.args.base.now) c.args.self.now.marks) c.args.moves.now c.evaluate_alone.new.moves c.evaluate_alone.ensures.cost
