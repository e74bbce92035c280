use Rattle.lt_sense.specs.ByKey.{slices_without}
use Rattle.lt_sense.specs.Cut.{cut}
use Rattle.lt_sense.proofs.by_key_sense.SenseByKey.without.Given as goal

abbrev pub ghost-without : goal.ghost-without
ghost-without a = record { root = cut a._keys.now a._old.now.seen.root; slices = slices_without a._keys.now a._old.now.seen.slices }
