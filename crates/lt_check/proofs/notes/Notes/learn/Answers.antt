use Rattle.lt_check.proofs.Looks.{Takes_agreed}
use Rattle.lt_check.proofs.notes.Notes.learn.Goals as goal

pub returns-in-Some : goal.returns-in-Some
returns-in-Some c = Takes_agreed c.args.number c.in-Some.known c.args.kind c.args.self.now _ c.in-Some.ensures c.agree.ensures
