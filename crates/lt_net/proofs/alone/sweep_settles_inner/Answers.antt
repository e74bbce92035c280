use Rattle.lt_net.proofs.Reached.{reached_sweep}
use Rattle.lt_net.proofs.alone.sweep_settles_inner.Goals as goal

pub returns : goal.returns
returns c = reached_sweep
