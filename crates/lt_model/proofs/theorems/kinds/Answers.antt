use Rattle.lt_model.proofs.Laws.{some_choice, found_choice}
use Rattle.lt_model.proofs.Choices.{kinds_determined}
use Rattle.lt_model.proofs.theorems.kinds.Goals as goal

pub returns-clause-some : goal.returns-clause-some
returns-clause-some c = some_choice

pub returns-clause-found : goal.returns-clause-found
returns-clause-found c = found_choice

pub returns-clause-determined : goal.returns-clause-determined
returns-clause-determined c = kinds_determined
