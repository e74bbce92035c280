use Rattle.std.proofs.Common.{◌≡◌, map, take}
use Rattle.lt_program.proofs.effect.marked.Given as goal

abbrev pub invariant-loop-row : goal.invariant-loop-row
invariant-loop-row l = l.list ≡ map (λ row. record { relation = l.relation; row = row; plus = l.plus }) (take l.row-index l.rows)
