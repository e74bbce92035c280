use Rattle.lt_flat.proofs.Searches.{searched}
use Rattle.lt_reference.proofs.laying.search.Goals as goal

pub returns : goal.returns
returns c =
    let both = searched c.args.rows.now c.args.row.now c.requires c.binary_search.result c.binary_search.ensures.bound c.binary_search.ensures.position in
    record { found = both.found; absent = both.absent }
