use Rattle.lt_console.proofs.Begun.{begun}
use Rattle.lt_console.proofs.session.Goals as goal

pub converse-requires-after_bounds : goal.converse-requires-after_bounds
converse-requires-after_bounds g c κs within = begun c.in_ok-world.world c.in_ok-world.ensures
