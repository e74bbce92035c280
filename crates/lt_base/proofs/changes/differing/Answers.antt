use Rattle.lt_base.proofs.Apart.{differ, alike}
use Rattle.lt_base.proofs.changes.differing.Goals as goal

pub returns-clause-differ : goal.returns-clause-differ
returns-clause-differ c = differ

pub returns-clause-agree : goal.returns-clause-agree
returns-clause-agree c = alike
