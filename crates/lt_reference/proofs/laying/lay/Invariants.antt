use Rattle.std.proofs.Common.{◌≡◌, drop}
use Rattle.lt_model.specs.Laws.{Rises}
use Rattle.lt_model.specs.Marks.{laid}
use Rattle.lt_reference.specs.Walk.{bare}
use Rattle.lt_reference.proofs.laying.lay.Given as goal

abbrev pub invariant-loop-i : goal.invariant-loop-i
invariant-loop-i l = record {
  so_far : laid (bare l.relations.items) (drop l.i l.marks) ≡ laid (bare l.initial.relations.items) l.marks;
  rises : Rises (bare l.relations.items);
}
