use Rattle.lt_readers.proofs.Moves.{meets}
use Rattle.lt_readers.proofs.pass.met.Goals as goal

pub enter_as-requires : goal.enter_as-requires
enter_as-requires c = meets _ _
