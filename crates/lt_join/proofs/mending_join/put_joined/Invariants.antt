use Rattle.std.proofs.Common.{◌≡◌, ◌+◌, ◌≤◌, ◌++◌, length, take, drop}
use Rattle.std.specs.List.{AllByRecursion}
use Rattle.lt_join.specs.MendedPlan.{mending_cost}
use Rattle.lt_join.specs.MendedRows.{AreJoinedIn}
use Rattle.lt_join.specs.OfKey.{IsOwnSliceOf}
use Rattle.lt_join.specs.Slices.{AreBelow}
use Rattle.lt_join.proofs.mending_join.put_joined.Given as goal

abbrev pub invariant-loop-key : goal.invariant-loop-key
invariant-loop-key g l = record {
  root : l.sense.root ≡ l.fn.sense.root;
  joined : AreJoinedIn (IsOwnSliceOf l.terms l.body l.plan (g.I.Indexes.state l.indexes)) (take l.key-index l.keys) l.fn.sense.slices l.old l.sense.slices (l.rows.items ++ drop l.place l.old);
  within : l.place ≤ length l.old;
  low : AllByRecursion (AreBelow l.rows.items) (drop l.key-index l.keys);
  cost : l.moves ≤ l.fn.moves + mending_cost (take l.key-index l.keys) l.body l.plan (g.I.Indexes.state l.indexes);
  rises : l.fn.moves ≤ l.moves;
}
