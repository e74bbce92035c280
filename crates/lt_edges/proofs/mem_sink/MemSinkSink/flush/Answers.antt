use Rattle.std.proofs.Common.{rules}
use Rattle.lt_edges.proofs.mem_sink.MemSinkSink.flush.Goals as goal

pub returns-then-contains-clause-exact : goal.returns-then-contains-clause-exact
returns-then-contains-clause-exact c = search rules

pub returns-clause-exact : goal.returns-clause-exact
returns-clause-exact c = search rules
