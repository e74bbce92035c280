use Rattle.lt_batch.proofs.Runs.{same_restated}
use Rattle.lt_batch.proofs.work.tally_on.Goals as goal

pub returns-then-are_empty-clause-restated : goal.returns-then-are_empty-clause-restated
returns-then-are_empty-clause-restated g c = same_restated c.args.prior c.in-Some.old c.in_ok-tally-in-Some.tally c.in-Some.is c.in_ok-tally-in-Some.ensures
