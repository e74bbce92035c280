use Rattle.lt_workers.specs.Machines.{net_of}
use Rattle.lt_workers.proofs.Continuing.{begins_then}
use Rattle.lt_workers.proofs.settling.settled_by_all.Goals as goal

pub settled_alone-requires : goal.settled_alone-requires
settled_alone-requires g c = record {
  free = c.close.ensures.free
      (begins_then (net_of g.W.LeafWork.does) c.in_ok-shared.seat.token.me.0 c.fan_out.new.seat.token.me.0 c.fan_out.ensures.drives.0.same c.in_ok-shared.ensures.begun)
      c.fan_out.ensures.drives.0.free;
}
