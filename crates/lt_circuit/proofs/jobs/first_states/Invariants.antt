use Rattle.std.proofs.Common.{◌≡◌}
use Rattle.lt_circuit.specs.Board.{table, first_state}
use Rattle.lt_circuit.proofs.jobs.first_states.Given as goal

abbrev pub invariant-loop-job : goal.invariant-loop-job
invariant-loop-job l = l.states.items ≡ table (first_state l.leaves) l.job
