use Rattle.lt_check.proofs.Looks.{Takes_numbered, stays}
use Rattle.lt_model.specs.Variables.{place_of}
use Rattle.lt_check.proofs.notes.Notes.int.Goals as goal

pub returns-clause-takes : goal.returns-clause-takes
returns-clause-takes c = Takes_numbered c.args.name.now c.in_ok-number.number _ c.args.self.now c.number.new.self c.learn.new.self c.in_ok-number.ensures.number c.in_ok-number.ensures.takes c.learn.ensures

pub returns-clause-number : goal.returns-clause-number
returns-clause-number c = stays c.in_ok-number.number (λ ns. place_of ns c.args.name.now) c.number.new.self c.learn.new.self _ _ c.in_ok-number.ensures.number c.learn.ensures
