use Rattle.lt_check.proofs.Bodies.{Takes_atom}
use Rattle.lt_check.proofs.taken.atom.Goals as goal

pub returns-clause-takes : goal.returns-clause-takes
returns-clause-takes c = Takes_atom c.args.schema.now c.args.head.now _ _ _ _ c.as_slice.ensures c.look_up-relation.ensures.columns c.in_ok-terms.ensures.takes
