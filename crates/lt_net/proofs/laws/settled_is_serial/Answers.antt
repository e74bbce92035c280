use Rattle.lt_net.proofs.Serial.{settled_serial}
use Rattle.lt_net.proofs.laws.settled_is_serial.Goals as goal

pub returns : goal.returns
returns c = settled_serial
