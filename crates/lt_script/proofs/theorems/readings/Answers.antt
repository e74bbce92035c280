use Rattle.lt_script.proofs.Totality.{some_reading}
use Rattle.lt_script.proofs.theorems.readings.Goals as goal

pub returns : goal.returns
returns c = some_reading
