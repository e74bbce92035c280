use Rattle.std.proofs.Common.{refl}
use Rattle.lt_check.proofs.Looks.{Takes_never}
use Rattle.lt_check.proofs.notes.Notes.refuse.Goals as goal

pub returns : goal.returns
returns c meets never = Takes_never meets c.args.self.now _ refl refl refl refl never
