use Rattle.std.proofs.Common.{◌≡◌, ◌++◌, take}
use Rattle.lt_join.specs.Noted.{noted_gaps}
use Rattle.lt_join.specs.OfKey.{parts_at}
use Rattle.lt_join.proofs.noting.add_parts.Given as goal

abbrev pub invariant-loop-at : goal.invariant-loop-at
invariant-loop-at l = record {
  gaps : l.sense.gaps ≡ l.fn.sense.gaps ++ parts_at l.key (noted_gaps l.indexes.items (take l.at l.gaps.items));
  hits : l.sense.hits ≡ l.fn.sense.hits;
}
