use Rattle.std.proofs.Common.{refl}
use Rattle.lt_check.proofs.Looks.{Takes_open}
use Rattle.lt_check.proofs.notes.Notes.leave_open.Goals as goal

pub returns : goal.returns
returns c meets = Takes_open meets c.args.self.now _ refl refl refl refl
