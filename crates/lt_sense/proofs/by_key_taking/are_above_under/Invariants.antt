use Rattle.std.proofs.Common.{take}
use Rattle.std.specs.List.{AllByRecursion}
use Rattle.lt_sense.specs.declared.covering.KeptGap.{KeptGap}
use Rattle.lt_sense.specs.ByKeyTold.{AllBegin}
use Rattle.lt_sense.specs.Spans.{growing}
use Rattle.lt_sense.proofs.by_key_taking.are_above_under.Given as goal

abbrev pub invariant-loop-i : goal.invariant-loop-i
invariant-loop-i l = AllByRecursion (λ (range : KeptGap). AllBegin l.key range.prefix range.lo range.hi) (take l.i (growing l.list.relation l.list.columns l.list.at 0 l.list.above.items))
