use Rattle.std.proofs.Common.{◌≡◌, map, take, drop}
use Rattle.lt_program.proofs.heads.parted.Given as goal

abbrev pub invariant-loop-row : goal.invariant-loop-row
invariant-loop-row l = (l.before.items ≡ map (take l.at) (take l.row-index l.row-items)) × (l.from.items ≡ map (drop l.at) (take l.row-index l.row-items))
