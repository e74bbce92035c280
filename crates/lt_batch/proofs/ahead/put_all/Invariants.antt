use Rattle.std.proofs.Common.{◌≡◌, List, [], length}
use Rattle.std.specs.List.{AllByRecursion}
use Rattle.lt_face.specs.State.{State}
use Rattle.lt_model.specs.declared.normal.Stmt.{Stmt}
use Rattle.lt_batch.specs.Folding.{AreAhead, IsInPlace}
use Rattle.lt_batch.proofs.ahead.put_all.Given as goal

abbrev pub invariant-loop-one : goal.invariant-loop-one
invariant-loop-one l = record {
  can_next : (goal.iterator-loop-one).can_next l.one-iterator;
  is_finite : (goal.iterator-loop-one).is_finite l.one-iterator;
  long : length l.all.items ≡ length l.fn.all.items;
  ahead : (programs : List (List Stmt)) (s : State) → AreAhead programs s [] 0 l.fn.all.items → AllByRecursion (IsInPlace programs s) l.fn.runs.items → AreAhead programs s [] 0 l.all.items;
}
