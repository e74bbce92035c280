use Rattle.std.proofs.Common.{◌≡◌, drop}
use Rattle.lt_join.specs.Narrowed.{has_var}
use Rattle.lt_join.proofs.narrowing.has_level.Given as goal

abbrev pub invariant-loop-level : goal.invariant-loop-level
invariant-loop-level l = has_var (drop l.level-index l.levels) l.v ≡ has_var l.levels l.v
