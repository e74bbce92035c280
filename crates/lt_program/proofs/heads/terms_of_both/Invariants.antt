use Rattle.std.proofs.Common.{◌≡◌, ◌++◌, take}
use Rattle.lt_program.proofs.heads.terms_of_both.Given as goal

abbrev pub invariant-loop-term : goal.invariant-loop-term
invariant-loop-term l = l.both ≡ l.first ++ take l.term-index l.term-items
