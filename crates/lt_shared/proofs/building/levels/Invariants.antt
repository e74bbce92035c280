use Rattle.std.proofs.Common.{◌≡◌, ◌≤◌, ◌<◌, ◌+◌, ◌*◌, length}
use Rattle.lt_shared.specs.Entries.{joined, level_rows}
use Rattle.lt_shared.proofs.building.levels.Given as goal

abbrev pub invariant-loop-entry : goal.invariant-loop-entry
invariant-loop-entry g l = record {
  can_next : (goal.iterator-loop-entry g).can_next l.entry-iterator;
  is_finite : (goal.iterator-loop-entry g).is_finite l.entry-iterator;
  rows : level_rows g.T.Entry.rows l.out.items l.group.items ≡ joined g.T.Entry.rows l.yielded;
  count : l.share ≡ 64 → 64 * length l.out.items + length l.group.items ≡ length l.yielded;
  bound : length l.group.items ≤ l.share;
  some : 0 < length l.out.items → 0 < length l.group.items;
}
