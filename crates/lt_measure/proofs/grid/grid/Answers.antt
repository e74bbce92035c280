use Rattle.lt_measure.proofs.Building.{IsBuilt-next_key}
use Rattle.lt_measure.proofs.grid.grid.Goals as goal

pub loop-a-preserved : goal.loop-a-preserved
loop-a-preserved c = IsBuilt-next_key _ _ _ c.in_ok-add_key.ensures
