use Rattle.std.proofs.Common.{refl}
use Rattle.lt_script.proofs.Taking.{broken_at_once}
use Rattle.lt_script.proofs.cursor.Cursor.take_item.Goals as goal

pub returns-in-End : goal.returns-in-End
returns-in-End c = (c.in-End.line, c.in-End.ensures, refl)

pub returns-in-Broken : goal.returns-in-Broken
returns-in-Broken c = broken_at_once c.args.self.now c.in-Broken.line c.in-Broken.code c.in-Broken.ensures
