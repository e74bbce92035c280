use Rattle.std.proofs.Common.{◌≡◌}
use Rattle.lt_dump.proofs.comparing.is_same_relation.Given as goal

abbrev pub invariant-rows : goal.invariant-rows
invariant-rows l = l.left ≡ l.right → l.one.rows ≡ l.other.rows
