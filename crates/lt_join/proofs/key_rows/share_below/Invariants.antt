use Rattle.lt_join.proofs.PutRows.{IsShared}
use Rattle.lt_join.proofs.key_rows.share_below.Given as goal

abbrev pub invariant-loop-i : goal.invariant-loop-i
invariant-loop-i l = IsShared l.key l.old l.fn.out.items l.out.items l.from l.i
