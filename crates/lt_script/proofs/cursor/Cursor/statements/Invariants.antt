use Rattle.std.proofs.Common.{◌-◌, length}
use Rattle.lt_script.proofs.Known.{Reading}
use Rattle.lt_script.proofs.cursor.Cursor.statements.Given as goal

abbrev pub invariant-statements : goal.invariant-statements
invariant-statements l = Reading l.fn.statements.items l.fn.self l.statements.items l.self

abbrev pub decreases-statements : goal.decreases-statements
decreases-statements l = 64 - length l.statements.items
