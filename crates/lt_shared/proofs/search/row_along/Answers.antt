use Rattle.lt_shared.proofs.Joins.{has-entry}
use Rattle.lt_shared.proofs.search.row_along.Goals as goal

pub returns : goal.returns
returns g c = has-entry g.T.Entry.rows c.args.entries.now c.row_about.result.now c.place.result c.index-entries-place.result c.place.ensures.within c.index-entries-place.is c.row_about.ensures
