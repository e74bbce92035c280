use Rattle.std.proofs.Common.{◌≡◌, drop}
use Rattle.lt_query.specs.LevelsOf.{first_place, level_terms}
use Rattle.lt_query.proofs.levels.first_level.Given as goal

abbrev pub invariant-loop-l : goal.invariant-loop-l
invariant-loop-l l = first_place l.l (level_terms (drop l.l l.seen)) l.v ≡ first_place 0 (level_terms l.seen) l.v
