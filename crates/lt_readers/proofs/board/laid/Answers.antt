use Rattle.std.proofs.Common.{rules}
use Rattle.lt_readers.proofs.board.laid.Goals as goal

pub show-requires-clause-last : goal.show-requires-clause-last
show-requires-clause-last g c = (_, _, c.append.ensures.pending, search rules)
