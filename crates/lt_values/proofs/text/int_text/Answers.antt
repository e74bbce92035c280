use Rattle.std.proofs.Common.{rules}
use Rattle.lt_values.proofs.text.int_text.Goals as goal

pub returns : goal.returns
returns c = search rules
