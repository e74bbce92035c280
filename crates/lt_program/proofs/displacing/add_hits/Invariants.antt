use Rattle.std.proofs.Common.{◌≡◌, ◌++◌, map, take}
use Rattle.lt_program.proofs.KeysLooked.{hit_at}
use Rattle.lt_program.proofs.displacing.add_hits.Given as goal

abbrev pub invariant-loop-row : goal.invariant-loop-row
invariant-loop-row l = record {
  gaps : l.sense.gaps ≡ l.fn.sense.gaps;
  hits : l.sense.hits ≡ l.fn.sense.hits ++ map (hit_at l.relation) (take l.row-index l.rows);
}
