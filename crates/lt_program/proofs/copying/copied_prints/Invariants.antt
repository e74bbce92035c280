use Rattle.std.proofs.Common.{◌≡◌, take}
use Rattle.lt_program.proofs.copying.copied_prints.Given as goal

abbrev pub invariant-loop-printed : goal.invariant-loop-printed
invariant-loop-printed l = l.copy ≡ take l.printed-index l.prints
