use Rattle.std.proofs.Common.{[], ◌++◌}
use Rattle.lt_sense.proofs.by_key.GatheringByKey.add_all.Given as goal

abbrev pub ghost-of : goal.ghost-of
ghost-of a = record { root = record { gaps = []; hits = [] }; slices = [] }

abbrev pub ghost-with_all : goal.ghost-with_all
ghost-with_all a = record {
  root = record { gaps = a._old.now.seen.root.gaps ++ a._other.now.seen.root.gaps; hits = a._old.now.seen.root.hits ++ a._other.now.seen.root.hits };
  slices = a._old.now.seen.slices ++ a._other.now.seen.slices;
}
