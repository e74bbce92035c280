use Rattle.std.proofs.Common.{rules}
use Rattle.lt_world.proofs.world.World.keep.Goals as goal

pub returns-clause-database : goal.returns-clause-database
returns-clause-database c = search rules

pub returns-clause-versions : goal.returns-clause-versions
returns-clause-versions c = search rules
