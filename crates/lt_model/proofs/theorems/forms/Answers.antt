use Rattle.lt_model.proofs.OnCells.{code_stays, normal_follows, forms_stay_good}
use Rattle.lt_model.proofs.theorems.forms.Goals as goal

pub returns-clause-code : goal.returns-clause-code
returns-clause-code c = code_stays

pub returns-clause-normal : goal.returns-clause-normal
returns-clause-normal c = normal_follows

pub returns-clause-filled : goal.returns-clause-filled
returns-clause-filled c = forms_stay_good
