use Rattle.std.proofs.Common.{◌≡◌, map, take}
use Rattle.lt_join.proofs.noting.row_at.Given as goal

abbrev pub invariant-loop-place : goal.invariant-loop-place
invariant-loop-place g l = l.row ≡ map (g.K.KeysAt.key l.keys) (take l.place-index l.places)
