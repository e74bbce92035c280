use Rattle.std.proofs.Common.{[], ◌≤◌}
use Rattle.lt_net.specs.LineAlone.{line_jobs}
use Rattle.lt_circuit.proofs.OnWay.{IsOnWay}
use Rattle.lt_circuit.specs.Row.{sizes}
use Rattle.std.specs.Prelude.{map}
use Rattle.lt_circuit.specs.Line.{line_event, line_state}
use Rattle.lt_circuit.specs.LineShape.{line_shape, line_shape_net}
use Rattle.lt_circuit.proofs.line.Line.settle_alone.Given as goal

abbrev pub invariant-loop-s : goal.invariant-loop-s
invariant-loop-s g l = record {
  way : IsOnWay line_shape_net (line_shape g.W.LeafWork.does l.fn.self) (line_state l.fn.self) (map line_event l.fn.self.journal)
      (line_jobs (line_shape_net (line_shape g.W.LeafWork.does l.fn.self)) (sizes l.fn.self.row) l.s (line_state l.fn.self))
      (line_shape g.W.LeafWork.does l.self) (line_state l.self) (map line_event l.self.journal) [];
  within : l.s ≤ l.segments;
}
