use Rattle.lt_obeying.proofs.Worlds.{taken}
use Rattle.lt_obeying.proofs.inserting.take.Goals as goal

pub returns-in-Ok : goal.returns-in-Ok
returns-in-Ok g c = taken c.args.world.now c.take.new.self c.args.item c.requires.world c.in-Ok.ensures.world
