use Rattle.lt_check.proofs.Bodies.{Takes_sum, sum_is}
use Rattle.lt_check.proofs.taken.sum.Goals as goal

pub returns-clause-takes : goal.returns-clause-takes
returns-clause-takes c = Takes_sum c.args.var.now c.args.a.now c.args.b.now c.args.minus _ _ _ _ c.in_ok-var.ensures.takes c.in_ok-a.ensures.takes c.in_ok-b.ensures.takes

pub returns-clause-test : goal.returns-clause-test
returns-clause-test c = sum_is c.args.var.now c.args.a.now c.args.b.now c.args.minus c.in_ok-var.var c.in_ok-a.a c.in_ok-b.b _ _ _ _ _ c.in_ok-var.ensures.number c.in_ok-a.ensures.takes c.in_ok-a.ensures.term c.in_ok-b.ensures.takes c.in_ok-b.ensures.term
