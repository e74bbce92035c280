use Rattle.std.proofs.Common.{◌≡◌, ◌++◌, drop}
use Rattle.lt_join.proofs.key_rows.share_from.Given as goal

abbrev pub invariant-loop-i : goal.invariant-loop-i
invariant-loop-i l = l.out.items ++ drop l.i l.old ≡ l.fn.out.items ++ drop l.from l.old
