use Rattle.lt_net.specs.Alone.{IsUnclaimed}
use Rattle.lt_circuit.specs.Line.{line_state}
use Rattle.lt_trials.proofs.lines.passes.Given as goal

abbrev pub invariant-loop-code : goal.invariant-loop-code
invariant-loop-code l = IsUnclaimed (line_state l.line)
