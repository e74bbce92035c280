use Rattle.std.proofs.Common.{rules}
use Rattle.lt_leap.proofs.leap.Leap.at_end.Goals as goal

pub returns : goal.returns
returns g c = search rules
