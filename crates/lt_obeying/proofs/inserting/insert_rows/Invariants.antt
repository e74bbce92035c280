use Rattle.lt_world.specs.World.{IsWorld}
use Rattle.lt_obeying.proofs.inserting.insert_rows.Given as goal

abbrev pub invariant-rows : goal.invariant-rows
invariant-rows g l = IsWorld l.world
