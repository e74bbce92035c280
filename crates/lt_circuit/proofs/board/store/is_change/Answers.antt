use Rattle.std.proofs.Common.{rules}
use Rattle.lt_circuit.proofs.board.store.is_change.Goals as goal

pub returns-clause-same : goal.returns-clause-same
returns-clause-same c = search rules
