-- The world stands somewhere behind each command.
use Rattle.std.proofs.Common.{false}
use Rattle.lt_model.specs.declared.syntax.Item.{Item}
use Rattle.lt_model.specs.Report as model
use Rattle.lt_model.specs.Report.{step}
use Rattle.lt_world.specs.declared.world.World.{World}
use Rattle.lt_world.specs.World.{IsWorld, Shows, ShowsNow, Takes, now_of}

-- behind an item that was taken
pub taken : (w v : World) (item : Item) → IsWorld w → Takes w item v → IsWorld v
taken w v item h t = record { model = step false h.model item; shows = t false h.model h.shows }

-- and behind versions that were given up
pub forgotten : (w v : World) → IsWorld w → ((m : model.World) → Shows w m → ShowsNow v m) → IsWorld v
forgotten w v h t = record { model = now_of h.model; shows = t h.model h.shows }
