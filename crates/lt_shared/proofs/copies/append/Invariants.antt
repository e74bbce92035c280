use Rattle.std.proofs.Common.{◌≡◌, ◌≤◌, ◌+◌, ◌++◌, take}
use Rattle.lt_shared.proofs.copies.append.Given as goal

abbrev pub invariant-loop-entry : goal.invariant-loop-entry
invariant-loop-entry g l =
    record {
      list : l.list.items ≡ l.initial.list.items ++ take l.entry-index l.entries;
      made : l.made ≤ l.initial.made + l.entry-index;
    }
