use Rattle.std.proofs.Common.{rules}
use Rattle.lt_flat.proofs.list.insert_at.Goals as goal

pub returns-in_ok-insert-in-Some-clause-ok : goal.returns-in_ok-insert-in-Some-clause-ok
returns-in_ok-insert-in-Some-clause-ok c = search rules
