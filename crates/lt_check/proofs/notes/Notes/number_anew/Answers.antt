use Rattle.lt_check.proofs.Fronts.{number_added}
use Rattle.lt_check.proofs.Looks.{Takes_added}
use Rattle.lt_check.proofs.notes.Notes.number_anew.Goals as goal

pub returns-clause-takes : goal.returns-clause-takes
returns-clause-takes c = Takes_added c.args.self.now c.add.new.self c.args.name.now c.requires c.in_ok-place.ensures.names c.in_ok-place.ensures.known c.in_ok-place.ensures.calm.0 c.in_ok-place.ensures.calm.1

pub returns-clause-number : goal.returns-clause-number
returns-clause-number c whole w = number_added c.args.self.now.names c.add.new.self.names whole c.args.name.now c.in_ok-place.place _ c.requires c.in_ok-place.ensures.place c.in_ok-place.ensures.names c.number_at.ensures w
