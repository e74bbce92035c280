use Rattle.std.proofs.Common.{rules}
use Rattle.lt_circuit.proofs.board.store.ended.Goals as goal

pub returns-in-Dirty : goal.returns-in-Dirty
returns-in-Dirty c = search rules
