use Rattle.std.proofs.Common.{◌-◌}
use Rattle.lt_circuit.proofs.OnRounds.{IsOnRounds}
use Rattle.lt_circuit.specs.Circuit.{state}
use Rattle.lt_circuit.specs.Entry.{event_of}
use Rattle.lt_circuit.specs.Shape.{shape}
use Rattle.std.specs.Prelude.{map}
use Rattle.lt_circuit.proofs.circuit.Circuit.settle_alone.Given as goal

abbrev pub invariant-loop-round : goal.invariant-loop-round
invariant-loop-round g l =
    IsOnRounds (shape g.W.LeafWork.does l.fn.self) (state l.fn.self) (map event_of l.fn.self.journal) l.leaves
    (shape g.W.LeafWork.does l.self) (state l.self) (map event_of l.self.journal) (l.leaves - l.round)
