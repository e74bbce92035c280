use Rattle.lt_model.proofs.Alike.{alike_tokens}
use Rattle.lt_model.proofs.Told.{tokens_tell_cells}
use Rattle.lt_model.proofs.theorems.tokens_of_forms.Goals as goal

pub returns-clause-alike : goal.returns-clause-alike
returns-clause-alike c = alike_tokens

pub returns-clause-cells : goal.returns-clause-cells
returns-clause-cells c = tokens_tell_cells
