use Rattle.lt_obeying.proofs.Dumping.{made_same}
use Rattle.lt_obeying.proofs.dump_check.is_making.Goals as goal

pub returns : goal.returns
returns g c = λ e. made_same c.args.text.now c.in_ok-found.found c.in-Some.made c.args.world.now c.in-Some.is c.in_ok-found.ensures (c.is_same_world.ensures.schema e) (c.is_same_world.ensures.state e)
