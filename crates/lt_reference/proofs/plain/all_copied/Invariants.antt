use Rattle.std.proofs.Common.{◌≡◌, take}
use Rattle.lt_reference.proofs.plain.all_copied.Given as goal

abbrev pub invariant-loop-rows : goal.invariant-loop-rows
invariant-loop-rows l = l.copies.items ≡ take l.rows-index l.relations
