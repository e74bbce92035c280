use Rattle.std.proofs.Common.{map}
use Rattle.lt_base.specs.Tables.{state_of}
use Rattle.lt_world.proofs.world.World.run_batches.Given as goal

abbrev pub ghosts-run_published : goal.ghosts-run_published
ghosts-run_published g a = record { state = state_of a.database.now; versions = map state_of a.versions.now }
