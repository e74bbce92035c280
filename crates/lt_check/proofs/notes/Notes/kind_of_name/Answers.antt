use Rattle.lt_check.proofs.Looks.{name_told}
use Rattle.lt_check.proofs.notes.Notes.kind_of_name.Goals as goal

pub returns-in-Some : goal.returns-in-Some
returns-in-Some c = name_told c.get.result c.args.name.now c.in-Some.place c.args.self.now c.in-Some.ensures c.get.ensures
