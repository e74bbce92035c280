use Rattle.std.proofs.Common.{◌-◌}
use Rattle.lt_net.specs.LineAlone.{segment_jobs}
use Rattle.lt_circuit.proofs.LineWay.{still_to_do}
use Rattle.lt_circuit.proofs.OnWay.{IsOnWay}
use Rattle.std.specs.Prelude.{map}
use Rattle.lt_circuit.specs.Line.{line_event, line_state}
use Rattle.lt_circuit.specs.LineShape.{line_shape, line_shape_net}
use Rattle.lt_circuit.proofs.line.Line.run_segment.Given as goal

abbrev pub invariant-loop-round : goal.invariant-loop-round
invariant-loop-round g l =
    IsOnWay line_shape_net (line_shape g.W.LeafWork.does l.fn.self) (line_state l.fn.self) (map line_event l.fn.self.journal)
    (segment_jobs (line_shape_net (line_shape g.W.LeafWork.does l.fn.self)) l.leaves l.s (line_state l.fn.self))
    (line_shape g.W.LeafWork.does l.self) (line_state l.self) (map line_event l.self.journal)
    (still_to_do (line_shape_net (line_shape g.W.LeafWork.does l.fn.self)) l.leaves l.s (l.leaves - l.round) (line_state l.self))
