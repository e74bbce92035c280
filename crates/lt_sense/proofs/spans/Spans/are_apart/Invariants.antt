use Rattle.std.proofs.Common.{take}
use Rattle.lt_face.specs.Lists.{AreInOrder}
use Rattle.lt_sense.specs.Apart.{IsApart, stills_in}
use Rattle.lt_sense.proofs.spans.Spans.are_apart.Given as goal

abbrev pub invariant-loop-at : goal.invariant-loop-at
invariant-loop-at l = AreInOrder IsApart (stills_in l.self (take l.at l.all))
