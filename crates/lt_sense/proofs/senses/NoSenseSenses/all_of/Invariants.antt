use Rattle.std.proofs.Common.{◌++◌}
use Rattle.lt_sense.proofs.senses.NoSenseSenses.all_of.Given as goal

abbrev pub ghost-with_all : goal.ghost-with_all
ghost-with_all a = record { gaps = a._old.now.seen.gaps ++ a._other.now.seen.gaps; hits = a._old.now.seen.hits ++ a._other.now.seen.hits }
