use Rattle.std.proofs.Common.{◌≡◌, ◌-◌, ◌^◌, []}
use Rattle.lt_join.specs.Slices.{AreKeyed, slices_of}
use Rattle.lt_join.proofs.GoingByKey.{IsGathering}
use Rattle.lt_join.proofs.slicing.gather_keys.Given as goal

abbrev pub invariant-loop-met : goal.invariant-loop-met
invariant-loop-met g l = record {
  at_root : l.keys ≡ [];
  none : l.noted ≡ record { gaps = []; hits = [] };
  keyed : AreKeyed l.sense.slices l.rows.items;
  gathering : IsGathering l.fn.way l.sense.root (slices_of l.rows.items l.sense.slices) l.fn.iters l.iters l.lo l.hi l.fn.moves l.moves l.met.key l.met.turn;
}

abbrev pub decreases-loop-met : goal.decreases-loop-met
decreases-loop-met g l = 2 ^ 128 - l.met.key
