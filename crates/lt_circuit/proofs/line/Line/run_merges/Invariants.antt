use Rattle.lt_net.specs.Alone.{merges_down}
use Rattle.lt_net.specs.LineAlone.{in_segment}
use Rattle.lt_circuit.proofs.OnWay.{IsOnWay}
use Rattle.std.specs.Prelude.{map}
use Rattle.lt_circuit.specs.Line.{line_event, line_state}
use Rattle.lt_circuit.specs.LineShape.{line_shape, line_shape_net}
use Rattle.lt_circuit.proofs.line.Line.run_merges.Given as goal

abbrev pub invariant-loop-v : goal.invariant-loop-v
invariant-loop-v g l =
    IsOnWay line_shape_net (line_shape g.W.LeafWork.does l.fn.self) (line_state l.fn.self) (map line_event l.fn.self.journal) (in_segment l.s (merges_down l.count))
    (line_shape g.W.LeafWork.does l.self) (line_state l.self) (map line_event l.self.journal) (in_segment l.s (merges_down l.v))
