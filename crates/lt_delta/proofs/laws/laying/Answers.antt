use Rattle.lt_model.proofs.Laws.{laid_has}
use Rattle.lt_model.proofs.Composition.{laid_twice}
use Rattle.lt_delta.proofs.Kept.{IsState-laid}
use Rattle.lt_delta.proofs.laws.laying.Goals as goal

pub returns-clause-rows : goal.returns-clause-rows
returns-clause-rows c = laid_has

pub returns-clause-twice : goal.returns-clause-twice
returns-clause-twice c = laid_twice

pub returns-clause-kept : goal.returns-clause-kept
returns-clause-kept c = IsState-laid
