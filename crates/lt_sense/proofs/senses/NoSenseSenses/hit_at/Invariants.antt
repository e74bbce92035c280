use Rattle.std.proofs.Common.{[], ◌∷◌, ◌++◌, map}
use Rattle.lt_sense.proofs.senses.NoSenseSenses.hit_at.Given as goal

abbrev pub ghost-with_hit_at : goal.ghost-with_hit_at
ghost-with_hit_at g a = record a._old.now.seen { hits = a._old.now.seen.hits ++ record { relation = a._relation; row = map (g.K.KeysAt.key a._keys.now) a._places.now } ∷ [] }
