use Rattle.std.proofs.Common.{[], ◌∷◌, ◌++◌}
use Rattle.lt_sense.proofs.by_key.GatheringByKey.add_root.Given as goal

abbrev pub ghost-with_root : goal.ghost-with_root
ghost-with_root a = record {
  root = record { gaps = a._old.now.seen.root.gaps ++ record { relation = a._relation; columns = a._perm.now; prefix = []; lo = a._lo; hi = a._hi } ∷ []; hits = a._old.now.seen.root.hits };
  slices = a._old.now.seen.slices;
}
