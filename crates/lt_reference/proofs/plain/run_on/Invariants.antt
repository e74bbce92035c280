use Rattle.std.proofs.Common.{◌≡◌, ◌+◌, drop}
use Rattle.lt_model.specs.Laws.{Rises}
use Rattle.lt_model.specs.Marks.{AreMarks, laid}
use Rattle.lt_model.specs.Run.{run, run_from}
use Rattle.lt_reference.specs.Run.{so_far}
use Rattle.lt_reference.specs.Walk.{AreCells, bare}
use Rattle.lt_reference.proofs.plain.run_on.Given as goal

abbrev pub invariant-loop-i : goal.invariant-loop-i
invariant-loop-i l = record {
  rest : run_from (l.i + 1) (drop l.i l.prog) (bare l.fn.relations.items) (so_far l.progress) ≡ run l.prog (bare l.fn.relations.items);
  lays : bare l.progress.relations.items ≡ laid (bare l.fn.relations.items) l.progress.marks;
  ascending : AreMarks l.progress.marks;
  rises : Rises (bare l.progress.relations.items);
  cells : AreCells l.progress.relations.items;
}
