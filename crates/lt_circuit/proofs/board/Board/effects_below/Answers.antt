use Rattle.std.proofs.Common.{rules}
use Rattle.lt_circuit.proofs.board.Board.effects_below.Goals as goal

pub returns : goal.returns
returns c = search rules
