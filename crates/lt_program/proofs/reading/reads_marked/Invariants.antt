use Rattle.std.proofs.Common.{◌≡◌, take, false}
use Rattle.std.specs.List.{list_any}
use Rattle.lt_program.specs.Run.{reads_marked_in}
use Rattle.lt_program.proofs.reading.reads_marked.Given as goal

abbrev pub invariant-loop-stmt : goal.invariant-loop-stmt
invariant-loop-stmt l = list_any (reads_marked_in l.marks) (take l.stmt-index l.prog) ≡ false
