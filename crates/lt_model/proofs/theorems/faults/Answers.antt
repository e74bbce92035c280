use Rattle.lt_model.proofs.Laws.{one_fault, no_fault_ahead}
use Rattle.lt_model.proofs.theorems.faults.Goals as goal

pub returns-clause-one : goal.returns-clause-one
returns-clause-one c = one_fault

pub returns-clause-ahead : goal.returns-clause-ahead
returns-clause-ahead c = no_fault_ahead
