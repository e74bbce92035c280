use Rattle.std.proofs.Common.{◌≡◌, ◌-◌, ◌^◌, []}
use Rattle.lt_query.specs.Plan.{term_at}
use Rattle.lt_join.specs.Known.{IsKnown}
use Rattle.lt_join.specs.Values.{values_in}
use Rattle.lt_join.proofs.Going.{IsGoing}
use Rattle.lt_join.proofs.PartLaws.{AreWithin}
use Rattle.lt_join.proofs.ranging.explore_keys.Given as goal

abbrev pub invariant-loop-met : goal.invariant-loop-met
invariant-loop-met g l = record {
  at_root : l.keys ≡ [];
  known : IsKnown l.fn.way.plan.levels [] (values_in l.walk.values.cells);
  within : AreWithin l.fn.way.terms l.fn.way.body l.fn.way.state (term_at l.fn.way.plan.levels 0) l.lo l.hi l.walk.found.rows;
  going : IsGoing l.fn.way (record { sense = record { gaps = []; hits = [] }; rows = [] }) l.walk.found [] l.fn.iters l.iters l.lo l.fn.moves l.moves l.met.key l.met.turn;
}

abbrev pub decreases-loop-met : goal.decreases-loop-met
decreases-loop-met g l = 2 ^ 128 - l.met.key
