use Rattle.std.proofs.Common.{◌≡◌, take}
use Rattle.lt_program.proofs.course.shared_parts.Given as goal

abbrev pub invariant-loop-part : goal.invariant-loop-part
invariant-loop-part l = l.shared ≡ take l.part-index l.parts
