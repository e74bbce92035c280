use Rattle.std.proofs.Common.{◌≤◌, ◌<◌, take}
use Rattle.std.specs.List.{AllByRecursion}
use Rattle.lt_query.proofs.holders.above_all.Given as goal

abbrev pub invariant-loop-level : goal.invariant-loop-level
invariant-loop-level l = record {
  at_least : l.count ≤ l.most;
  above : AllByRecursion (λ x. x < l.most) (take l.level-index l.levels);
}
