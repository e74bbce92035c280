use Rattle.lt_net.proofs.Reached.{reached_leaves}
use Rattle.lt_net.proofs.alone.each_round_one_leaf.Goals as goal

pub returns : goal.returns
returns c = reached_leaves
