use Rattle.std.proofs.Common.{◌≡◌, ◌++◌, map, take, drop}
use Rattle.lt_base.specs.Indexed.{index_edited}
use Rattle.lt_base.proofs.relation.edit_all.Given as goal

abbrev pub invariant-loop-i : goal.invariant-loop-i
invariant-loop-i l = l.others ≡ map (index_edited l.row l.plus) (take l.i l.fn.others) ++ drop l.i l.fn.others
