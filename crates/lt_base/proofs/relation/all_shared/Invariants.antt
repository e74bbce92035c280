use Rattle.std.proofs.Common.{◌≡◌, take}
use Rattle.lt_base.proofs.relation.all_shared.Given as goal

abbrev pub invariant-loop-index : goal.invariant-loop-index
invariant-loop-index l = l.shared.items ≡ take l.index-index l.others.items
