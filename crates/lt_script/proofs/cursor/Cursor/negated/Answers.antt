use Rattle.std.proofs.Common.{rules}
use Rattle.lt_script.proofs.cursor.Cursor.negated.Goals as goal

pub returns : goal.returns
returns c = search rules
