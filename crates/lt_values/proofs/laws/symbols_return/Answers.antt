use Rattle.lt_values.proofs.Padding.{symbol_returns}
use Rattle.lt_values.proofs.laws.symbols_return.Goals as goal

pub returns : goal.returns
returns c = symbol_returns
