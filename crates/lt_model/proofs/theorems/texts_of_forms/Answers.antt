use Rattle.lt_model.proofs.Numbers.{numbers_within}
use Rattle.lt_model.proofs.Filled.{forms_fill, one_form}
use Rattle.lt_model.proofs.theorems.texts_of_forms.Goals as goal

pub returns-clause-fill : goal.returns-clause-fill
returns-clause-fill c = forms_fill

pub returns-clause-one : goal.returns-clause-one
returns-clause-one c = one_form

pub returns-clause-within : goal.returns-clause-within
returns-clause-within c = numbers_within
