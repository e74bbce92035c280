use Rattle.std.proofs.Common.{◌≡◌, take, map}
use Rattle.lt_base.specs.Indexed.{index_laid}
use Rattle.lt_base.proofs.relation.all_laid.Given as goal

abbrev pub invariant-loop-index : goal.invariant-loop-index
invariant-loop-index l = l.laid.items ≡ map (index_laid l.relation l.marks) (take l.index-index l.others.items)
