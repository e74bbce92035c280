use Rattle.lt_trie.proofs.Stands.{stand_wide, stand_rising}
use Rattle.lt_trie.proofs.stand.find_end.Goals as goal

pub place_behind-place-requires-clause-wide : goal.place_behind-place-requires-clause-wide
place_behind-place-requires-clause-wide g c = stand_wide _ (g.R.RowReads.rows c.args.rows.now) c.args.prefix.now c.args.key c.args.place.now.stand.run.now _ _ c.requires.deep c.width.ensures.is_set c.requires.stand

pub place_behind-place-requires-clause-rising : goal.place_behind-place-requires-clause-rising
place_behind-place-requires-clause-rising g c = stand_rising (g.R.RowReads.rows c.args.rows.now) c.args.prefix.now c.args.key c.args.place.now.stand.run.now _ _ c.width.ensures.is_set.rises c.requires.stand
