use Rattle.std.proofs.Common.{◌-◌}
use Rattle.lt_net.specs.Alone.{corrects_up}
use Rattle.lt_circuit.proofs.OnWay.{IsOnWay}
use Rattle.lt_circuit.specs.Circuit.{state}
use Rattle.lt_circuit.specs.Entry.{event_of}
use Rattle.lt_circuit.specs.Shape.{shape, shape_net}
use Rattle.std.specs.Prelude.{map}
use Rattle.lt_circuit.proofs.circuit.Circuit.run_corrects.Given as goal

abbrev pub invariant-loop-v : goal.invariant-loop-v
invariant-loop-v g l =
    IsOnWay shape_net (shape g.W.LeafWork.does l.fn.self) (state l.fn.self) (map event_of l.fn.self.journal) (corrects_up 0 l.count)
    (shape g.W.LeafWork.does l.self) (state l.self) (map event_of l.self.journal) (corrects_up l.v (l.count - l.v))
