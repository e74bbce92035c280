use Rattle.lt_join.proofs.MendCopies.{atoms_more}
use Rattle.lt_join.proofs.mending_copy.copy_atoms.Goals as goal

pub loop-atom-preserved : goal.loop-atom-preserved
loop-atom-preserved c = atoms_more c.args.atoms.now c.loop-atom.atom-index c.atom-item.result c.loop-atom.copy c.push.new.self c.in_ok-terms.terms c.loop-atom-test.true c.atom-item.is c.in_ok-terms.ensures c.in_ok-push.ensures.ok c.loop-atom.invariant
