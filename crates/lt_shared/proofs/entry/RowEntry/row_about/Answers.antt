use Rattle.std.proofs.Common.{◌||◌, false, ap}
use Rattle.std.specs.Ordering.{is_eq}
use Rattle.lt_face.proofs.RowLemmas.{cmp_itself}
use Rattle.lt_shared.proofs.entry.RowEntry.row_about.Goals as goal

pub returns : goal.returns
returns c = ap (λ o. is_eq o || false) (cmp_itself c.args.self.now)
