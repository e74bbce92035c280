use Rattle.lt_join.proofs.SliceLaws.{certified_whole, tight_whole, answers_whole}
use Rattle.lt_join.proofs.slicing.slices_make_the_whole.Goals as goal

pub returns-clause-certified : goal.returns-clause-certified
returns-clause-certified c = certified_whole

pub returns-clause-tight : goal.returns-clause-tight
returns-clause-tight c = tight_whole

pub returns-clause-answers : goal.returns-clause-answers
returns-clause-answers c = answers_whole
