use Rattle.std.proofs.Common.{take}
use Rattle.std.specs.Arc.{arc_value}
use Rattle.lt_runs.specs.Reading.{CountsAll, IsRight}
use Rattle.lt_runs.proofs.beside.comparing.equal_of.Given as goal

abbrev pub invariant-loop-answer : goal.invariant-loop-answer
invariant-loop-answer g l = CountsAll (IsRight (arc_value l.asked) l.versions) (take l.answer-index l.answers) l.equal
