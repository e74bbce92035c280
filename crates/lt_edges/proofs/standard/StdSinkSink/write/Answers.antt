use Rattle.std.proofs.Common.{rules}
use Rattle.lt_edges.proofs.standard.StdSinkSink.write.Goals as goal

pub returns-in_default-clause-cause : goal.returns-in_default-clause-cause
returns-in_default-clause-cause g c = search rules

pub returns-in-Ok-clause-takes : goal.returns-in-Ok-clause-takes
returns-in-Ok-clause-takes g c = search rules
