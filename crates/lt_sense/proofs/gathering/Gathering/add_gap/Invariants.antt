use Rattle.std.proofs.Common.{[], ◌∷◌, ◌++◌}
use Rattle.lt_sense.proofs.gathering.Gathering.add_gap.Given as goal

abbrev pub ghost-with_gap : goal.ghost-with_gap
ghost-with_gap a = record a._old.now.seen { gaps = a._old.now.seen.gaps ++ record { relation = a._relation; columns = a._perm.now; prefix = a._prefix.now; lo = a._lo; hi = a._hi } ∷ [] }
