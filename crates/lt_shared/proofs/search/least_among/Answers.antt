use Rattle.lt_shared.proofs.Joins.{ascending-at, found-or_next, near_place}
use Rattle.lt_shared.proofs.search.least_among.Goals as goal

pub row_at_least-requires : goal.row_at_least-requires
row_at_least-requires g c = ascending-at g.T.Entry.rows c.args.entries.now c.place-at.result c.index-entries-at.result c.requires c.place-at.ensures.within c.index-entries-at.is

pub returns : goal.returns
returns g c =
    found-or_next g.T.Entry.rows c.args.entries.now c.args.from.now c.place-at.result c.index-entries-at.result _ _
    (near_place g.T.Entry.rows c.args.entries.now c.args.from.now c.place-at.result c.place-at.ensures) c.index-entries-at.is c.row_at_least.ensures c.or_next.ensures
