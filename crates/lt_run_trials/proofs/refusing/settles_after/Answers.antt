use Rattle.lt_workers.specs.Machines.{net_of}
use Rattle.lt_workers.proofs.Continuing.{begins_then}
use Rattle.lt_run_trials.specs.contracts.sample.SampleLeafWork.TheImpl.{ghosts}
use Rattle.lt_run_trials.proofs.refusing.settles_after.Goals as goal

pub settle_alone-requires : goal.settle_alone-requires
settle_alone-requires g c = record {
  free = c.close-circuit.ensures.free
      (begins_then (net_of (ghosts).does) c.in_ok-shared.seat.token.me.0 c.fan_out.new.seat.token.me.0 c.fan_out.ensures.drives.0.same c.in_ok-shared.ensures.begun)
      c.fan_out.ensures.drives.0.free;
}
