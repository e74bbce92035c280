use Rattle.lt_values.proofs.Padding.{symbols_ordered}
use Rattle.lt_values.proofs.laws.symbols_ascend.Goals as goal

pub returns : goal.returns
returns c = symbols_ordered
