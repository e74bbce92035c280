use Rattle.std.proofs.Common.{sym, ◌∙◌}
use Rattle.lt_shared.proofs.Joins.{ascending-at, has-at}
use Rattle.lt_shared.proofs.search.has_among.Goals as goal

pub has-requires : goal.has-requires
has-requires g c = ascending-at g.T.Entry.rows c.args.entries.now c.place-at.result c.index-entries-at.result c.requires c.place-at.ensures.within c.index-entries-at.is

pub returns : goal.returns
returns g c = c.has.ensures ∙ sym (has-at g.T.Entry.rows c.args.entries.now c.args.row.now c.place-at.result c.index-entries-at.result c.place-at.ensures c.index-entries-at.is)
