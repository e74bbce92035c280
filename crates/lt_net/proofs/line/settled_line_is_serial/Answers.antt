use Rattle.lt_net.proofs.Lines.{settled_line}
use Rattle.lt_net.proofs.line.settled_line_is_serial.Goals as goal

pub returns : goal.returns
returns c = λ effect sizes events s small give h settled. settled_line effect sizes small events s h give settled
