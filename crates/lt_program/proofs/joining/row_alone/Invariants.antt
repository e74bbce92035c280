use Rattle.std.proofs.Common.{◌≡◌, take}
use Rattle.lt_model.specs.Answers.{cells_of}
use Rattle.lt_program.proofs.joining.row_alone.Given as goal

abbrev pub invariant-loop-term : goal.invariant-loop-term
invariant-loop-term l = l.row ≡ cells_of (λ v. 0) (take l.term-index l.term-items)
