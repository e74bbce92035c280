use Rattle.std.proofs.Common.{◌≡◌, ◌++◌, take}
use Rattle.lt_join.specs.Noted.{AreNoted, noted_gaps}
use Rattle.lt_join.proofs.noting.note_all.Given as goal

abbrev pub invariant-loop-at : goal.invariant-loop-at
invariant-loop-at l = record {
  noted : AreNoted l.indexes.items l.gaps.items;
  kept : noted_gaps l.indexes.items l.gaps.items ≡ noted_gaps l.fn.indexes.items l.fn.gaps.items ++ noted_gaps l.other_indexes.items (take l.at l.other_gaps.items);
}
