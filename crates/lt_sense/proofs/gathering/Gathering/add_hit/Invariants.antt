use Rattle.std.proofs.Common.{[], ◌∷◌, ◌++◌}
use Rattle.lt_sense.proofs.gathering.Gathering.add_hit.Given as goal

abbrev pub ghost-with_hit : goal.ghost-with_hit
ghost-with_hit a = record a._old.now.seen { hits = a._old.now.seen.hits ++ record { relation = a._relation; row = a._row.now } ∷ [] }
