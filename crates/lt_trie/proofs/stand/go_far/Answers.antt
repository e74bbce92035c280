use Rattle.std.proofs.Common.{◌<◌, length, sym, ◌∙◌, arith}
use Rattle.lt_trie.proofs.Runs.{cell_here}
use Rattle.lt_trie.proofs.Stands.{stand_wide, stand_rising, wide_at, moved}
use Rattle.lt_trie.proofs.stand.go_far.Goals as goal

pub place_behind-at-requires-clause-wide : goal.place_behind-at-requires-clause-wide
place_behind-at-requires-clause-wide g c = stand_wide _ (g.R.RowReads.rows c.args.rows.now) c.args.prefix.now _ c.args.place.now.stand.run.now _ _ c.requires.deep c.width.ensures.is_set c.requires.stand

pub place_behind-at-requires-clause-rising : goal.place_behind-at-requires-clause-rising
place_behind-at-requires-clause-rising g c = stand_rising (g.R.RowReads.rows c.args.rows.now) c.args.prefix.now _ c.args.place.now.stand.run.now _ _ c.width.ensures.is_set.rises c.requires.stand

pub cell_in-requires : goal.cell_in-requires
cell_in-requires g c =
    wide_at (length c.args.prefix.now) c.args.place.now.stand.run.now c.place_behind-at.result c.index-run-at.result
    (stand_wide _ (g.R.RowReads.rows c.args.rows.now) c.args.prefix.now _ c.args.place.now.stand.run.now _ _ c.requires.deep c.width.ensures.is_set c.requires.stand)
    (omega (arith, c.if-run-at.false)) c.index-run-at.is

pub returns : goal.returns
returns g c =
    let lt : c.place_behind-at.result < length c.args.place.now.stand.run.now = omega (arith, c.if-run-at.false) in
    let here = cell_here c.args.place.now.stand.run.now c.place_behind-at.result (length c.args.prefix.now) c.index-run-at.result lt c.index-run-at.is ∙ sym c.cell_in.ensures in
    let high = c.place_behind-at.ensures.cut.high c.place_behind-at.result (omega arith) lt in
    moved (g.R.RowReads.rows c.args.rows.now) c.args.prefix.now _ c.args.bound c.args.place.now.stand.run.now _ c.args.place.now.stand.is_whole c.place_behind-at.result c.cell_in.result
    c.width.ensures.is_set.rises c.requires.stand c.requires.above lt c.place_behind-at.ensures.cut.low here (omega (arith, here, high))
