use Rattle.lt_obeying.proofs.Dumping.{Stands}
use Rattle.lt_obeying.proofs.dump_check.world_of.Given as goal

abbrev pub invariant-steps : goal.invariant-steps
invariant-steps g l = Stands l.text l.feed l.world
