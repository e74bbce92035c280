use Rattle.std.proofs.Common.{◌≡◌, take}
use Rattle.lt_batch.specs.Line.{programs_of}
use Rattle.lt_world.specs.Lines.{goods_of}
use Rattle.lt_world.proofs.line.line_goods.Given as goal

abbrev pub invariant-loop-judgements : goal.invariant-loop-judgements
invariant-loop-judgements l = programs_of l.all.items ≡ goods_of (take l.judgements-index l.judged)
