use Rattle.lt_batch.proofs.Following.{faultless}
use Rattle.lt_batch.proofs.replaying.settled_entries_are_faultless.Goals as goal

pub returns : goal.returns
returns c = faultless
