use Rattle.std.proofs.Common.{◌≡◌, ◌-◌, ◌^◌, length}
use Rattle.lt_join.specs.Known.{IsKnown}
use Rattle.lt_join.specs.Values.{values_in}
use Rattle.lt_join.proofs.Going.{IsGoing}
use Rattle.lt_join.proofs.walk.+descend.Given as goal

abbrev pub decreases-descend : goal.decreases-descend
decreases-descend g l = length l.way.now.plan.levels - length l.keys.now

abbrev pub invariant-loop-met : goal.invariant-loop-met
invariant-loop-met g l = record {
  same : l.keys ≡ l.fn.keys;
  known : IsKnown l.fn.way.plan.levels l.fn.keys (values_in l.walk.values.cells);
  going : IsGoing l.fn.way l.fn.walk.found l.walk.found l.fn.keys l.fn.iters l.iters 0 l.fn.moves l.moves l.met.key l.met.turn;
}

abbrev pub decreases-loop-met : goal.decreases-loop-met
decreases-loop-met g l = 2 ^ 128 - l.met.key
