use Rattle.lt_join.proofs.MendLaws.{mended_are_slices, certified_of, tight_of, answers_of}
use Rattle.lt_join.proofs.mending.mended_slices_are_slices.Goals as goal

pub returns-clause-mended : goal.returns-clause-mended
returns-clause-mended c = mended_are_slices

pub returns-clause-certified : goal.returns-clause-certified
returns-clause-certified c = certified_of

pub returns-clause-tight : goal.returns-clause-tight
returns-clause-tight c = tight_of

pub returns-clause-answers : goal.returns-clause-answers
returns-clause-answers c = answers_of
