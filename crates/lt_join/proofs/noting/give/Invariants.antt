use Rattle.std.proofs.Common.{◌≡◌, ◌++◌, take}
use Rattle.lt_join.specs.Noted.{noted_gaps}
use Rattle.lt_join.proofs.noting.give.Given as goal

abbrev pub invariant-loop-at : goal.invariant-loop-at
invariant-loop-at l = record {
  gaps : l.sense.root.gaps ≡ l.fn.sense.root.gaps ++ noted_gaps l.indexes.items (take l.at l.gaps.items);
  hits : l.sense.root.hits ≡ l.fn.sense.root.hits;
  slices : l.sense.slices ≡ l.fn.sense.slices;
}
