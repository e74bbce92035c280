use Rattle.std.proofs.Common.{◌≡◌, take}
use Rattle.lt_dump.proofs.comparing.are_same_in_order.Given as goal

abbrev pub invariant-kinds : goal.invariant-kinds
invariant-kinds l = take l.number l.one ≡ take l.number l.other
