use Rattle.std.proofs.Common.{◌≡◌, ◌++◌, take, drop, length}
use Rattle.lt_leap.proofs.ring.put_last.Given as goal

abbrev pub invariant-loop-i : goal.invariant-loop-i
invariant-loop-i l = record {
  long : length l.ring.items ≡ length l.fn.ring.items;
  moved : l.ring.items ≡ take l.i (drop 1 l.fn.ring.items) ++ drop l.i l.fn.ring.items;
}
