use Rattle.std.proofs.Common.{take}
use Rattle.std.specs.List.{AllByRecursion}
use Rattle.lt_sense.specs.declared.covering.KeptGap.{KeptGap}
use Rattle.lt_sense.specs.ByKeyTold.{AllBegin}
use Rattle.lt_sense.specs.Spans.{stills}
use Rattle.lt_sense.proofs.by_key_taking.are_stills_under.Given as goal

abbrev pub invariant-loop-i : goal.invariant-loop-i
invariant-loop-i l = AllByRecursion (λ (range : KeptGap). AllBegin l.key range.prefix range.lo range.hi) (take l.i (stills l.list))
