use Rattle.lt_trie.proofs.Stands.{landed_past}
use Rattle.lt_trie.proofs.stand.go_past.Goals as goal

pub returns-then-place : goal.returns-then-place
returns-then-place g c = landed_past (g.R.RowReads.rows c.args.rows.now) c.args.prefix.now _ c.args.bound c.args.place.now.stand.run.now c.args.place.now.stand.end c.args.place.now.stand.is_whole c.width.ensures.is_set.rises c.requires.stand c.requires.above c.requires.cut c.if-place.true
