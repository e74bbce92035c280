use Rattle.std.proofs.Common.{[]}
use Rattle.lt_sense.specs.ByKey.{put_slice}
use Rattle.lt_sense.proofs.by_key.GatheringByKey.add_slice.Given as goal

abbrev pub ghost-with_slice : goal.ghost-with_slice
ghost-with_slice a = record { root = a._old.now.seen.root; slices = put_slice (record { key = a._key; sense = a._sense.now }) a._old.now.seen.slices }

abbrev pub ghost-of : goal.ghost-of
ghost-of a = record { root = record { gaps = []; hits = [] }; slices = [] }
