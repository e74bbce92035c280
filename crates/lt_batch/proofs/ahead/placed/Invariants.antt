use Rattle.std.proofs.Common.{◌≡◌, List, [], length}
use Rattle.lt_face.specs.State.{State}
use Rattle.lt_model.specs.declared.normal.Stmt.{Stmt}
use Rattle.lt_batch.specs.Folding.{AreAhead, AreAllInPlace}
use Rattle.lt_batch.proofs.ahead.placed.Given as goal

abbrev pub invariant-loop-list : goal.invariant-loop-list
invariant-loop-list l = record {
  can_next : (goal.iterator-loop-list).can_next l.list-iterator;
  is_finite : (goal.iterator-loop-list).is_finite l.list-iterator;
  long : length l.all.items ≡ l.count;
  ahead : (programs : List (List Stmt)) (s : State) → AreAllInPlace programs s l.fn.lists.items → AreAhead programs s [] 0 l.all.items;
}
