use Rattle.lt_script.proofs.Taking.{took, refused}
use Rattle.lt_script.proofs.cursor.Cursor.take_some.Goals as goal

pub returns-in-Ok : goal.returns-in-Ok
returns-in-Ok c = took c.args.self.now c.item.new.self c.in-Ok.item c.in-Ok.ensures.0 c.in-Ok.ensures.1

pub returns-in-Err : goal.returns-in-Err
returns-in-Err c = refused c.args.self.now c.item.new.self c.in-Err.refusal c.standing.result c.refused.result c.requires c.in-Err.ensures c.standing.ensures c.refused.ensures
