use Rattle.std.proofs.Common.{[]}
use Rattle.lt_sense.proofs.by_key.GatheringByKey.new.Given as goal

abbrev pub ghost-of : goal.ghost-of
ghost-of a = record { root = record { gaps = []; hits = [] }; slices = [] }
