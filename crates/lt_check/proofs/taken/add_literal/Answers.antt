use Rattle.lt_model.specs.declared.syntax.Literal.TheVariants as literals
use Rattle.lt_check.proofs.Bodies.{Takes_said}
use Rattle.lt_check.proofs.taken.add_literal.Goals as goal

pub returns-in_ok-push-in-Atom-clause-takes : goal.returns-in_ok-push-in-Atom-clause-takes
returns-in_ok-push-in-Atom-clause-takes c = Takes_said c.args.schema.now c.args.literal.now (literals.Atom c.in-Atom.head) _ _ c.in-Atom.is c.in_ok-atom-in-Atom.ensures.takes

pub returns-in_ok-push-in-Absent-clause-takes : goal.returns-in_ok-push-in-Absent-clause-takes
returns-in_ok-push-in-Absent-clause-takes c = Takes_said c.args.schema.now c.args.literal.now (literals.Absent c.in-Absent.head) _ _ c.in-Absent.is c.in_ok-atom-in-Absent.ensures.takes
