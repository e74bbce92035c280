use Rattle.lt_script.proofs.Numbered.{NumbersBody}
use Rattle.lt_script.proofs.blanking.blanked_body.Given as goal

abbrev pub invariant-loop-literal : goal.invariant-loop-literal
invariant-loop-literal l = record {
  can_next : (goal.iterator-loop-literal).can_next l.literal-iterator;
  is_finite : (goal.iterator-loop-literal).is_finite l.literal-iterator;
  numbers : NumbersBody l.fn.cells.items l.yielded l.blanked l.cells.items;
}
