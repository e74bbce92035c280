use Rattle.lt_model.proofs.Laws.{one_derivation, one_reading, one_report}
use Rattle.lt_model.proofs.theorems.readings.Goals as goal

pub returns-clause-derivation : goal.returns-clause-derivation
returns-clause-derivation c = one_derivation

pub returns-clause-reading : goal.returns-clause-reading
returns-clause-reading c = one_reading

pub returns-clause-report : goal.returns-clause-report
returns-clause-report c = one_report
