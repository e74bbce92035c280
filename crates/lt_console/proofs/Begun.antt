-- Where a session begins.
use Rattle.lt_model.specs.Report.{opening}
use Rattle.lt_world.specs.declared.world.World.{World}
use Rattle.lt_world.specs.World.{IsWorld, Shows}

-- where nothing was taken yet the world stands somewhere, too
pub begun : (w : World) → Shows w opening → IsWorld w
begun w s = record { model = opening; shows = s }
