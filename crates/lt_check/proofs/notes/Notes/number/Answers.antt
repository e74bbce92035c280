use Rattle.lt_check.proofs.Fronts.{number_found}
use Rattle.lt_check.proofs.Looks.{Takes_found}
use Rattle.lt_check.proofs.notes.Notes.number.Goals as goal

pub returns-in-Some-clause-takes : goal.returns-in-Some-clause-takes
returns-in-Some-clause-takes c = Takes_found c.args.self.now c.args.name.now c.in-Some.place c.in-Some.ensures

pub returns-in-Some-clause-number : goal.returns-in-Some-clause-number
returns-in-Some-clause-number c whole w = number_found c.args.self.now.names whole c.args.name.now c.in-Some.place _ c.in-Some.ensures c.number_at.ensures w
