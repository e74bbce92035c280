use Rattle.std.proofs.Common.{rules}
use Rattle.lt_edges.proofs.sure.SureSinkSink.write.Goals as goal

pub returns-clause-takes : goal.returns-clause-takes
returns-clause-takes c = search rules

pub returns-clause-whole : goal.returns-clause-whole
returns-clause-whole c = search rules
