use Rattle.lt_world.specs.World.{IsWorld}
use Rattle.lt_console.proofs.console.converse.Given as goal

abbrev pub invariant-lines : goal.invariant-lines
invariant-lines g l = IsWorld l.world
