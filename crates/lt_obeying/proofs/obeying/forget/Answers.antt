use Rattle.lt_obeying.proofs.Worlds.{forgotten}
use Rattle.lt_obeying.proofs.obeying.forget.Goals as goal

pub returns : goal.returns
returns g c = forgotten c.args.world.now c.forget_versions.new.self c.requires c.in_ok-forget_versions.ensures
