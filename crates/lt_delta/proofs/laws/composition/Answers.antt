use Rattle.lt_model.specs.Fits.{IsMarkOf}
use Rattle.lt_model.proofs.Composition.{AreMarks-and_then}
use Rattle.lt_delta.proofs.Composes.{associative, each_after}
use Rattle.lt_delta.proofs.Merges.{after_none}
use Rattle.lt_delta.proofs.laws.composition.Goals as goal

pub returns-clause-associative : goal.returns-clause-associative
returns-clause-associative c = associative

pub returns-clause-left : goal.returns-clause-left
returns-clause-left c = after_none

pub returns-clause-ascending : goal.returns-clause-ascending
returns-clause-ascending c = AreMarks-and_then

pub returns-clause-fits : goal.returns-clause-fits
returns-clause-fits c = λ state. each_after (IsMarkOf state)
