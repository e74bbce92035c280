use Rattle.std.proofs.Common.{[], ◌++◌}
use Rattle.lt_sense.proofs.gathering.Gathering.add_all.Given as goal

abbrev pub ghost-of : goal.ghost-of
ghost-of a = record { gaps = []; hits = [] }

abbrev pub ghost-with_all : goal.ghost-with_all
ghost-with_all a = record { gaps = a._old.now.seen.gaps ++ a._other.now.seen.gaps; hits = a._old.now.seen.hits ++ a._other.now.seen.hits }
