use Rattle.lt_model.proofs.Laws.{serial_joins}
use Rattle.lt_model.proofs.theorems.serial.Goals as goal

pub returns : goal.returns
returns c = serial_joins
