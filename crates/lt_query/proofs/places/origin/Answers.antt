use Rattle.std.proofs.Common.{rules}
use Rattle.lt_query.proofs.places.origin.Goals as goal

pub returns-else-place : goal.returns-else-place
returns-else-place c = search rules
