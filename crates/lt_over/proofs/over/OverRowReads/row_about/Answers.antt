use Rattle.lt_over.proofs.FoundRows.{found_in}
use Rattle.lt_over.proofs.over.OverRowReads.row_about.Goals as goal

pub returns-in-Some : goal.returns-in-Some
returns-in-Some g c = found_in c.args.self.now.rows c.in-Some.row.now c.row_at_least.result c.row_at_least.ensures
