use Rattle.std.proofs.Common.{◌≡◌, map, take}
use Rattle.std.specs.Prelude.{filter_map}
use Rattle.std.specs.Arc.{arc_value}
use Rattle.lt_model.specs.Report.{good_of}
use Rattle.lt_world.specs.Batches.{checked_of}
use Rattle.lt_world.proofs.batch.good_ones.Given as goal

abbrev pub invariant-loop-judgement : goal.invariant-loop-judgement
invariant-loop-judgement l = map arc_value l.good.items ≡ filter_map good_of (map checked_of (take l.judgement-index l.judgements))
