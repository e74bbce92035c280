use Rattle.std.proofs.Common.{◌<◌, length, sym, ◌∙◌, arith}
use Rattle.lt_trie.proofs.Runs.{cell_here}
use Rattle.lt_trie.proofs.Stands.{stand_wide, wide_at, moved, next_low}
use Rattle.lt_trie.proofs.stand.go_on.Goals as goal

pub cell_in-key-requires : goal.cell_in-key-requires
cell_in-key-requires g c =
    wide_at (length c.args.prefix.now) c.args.place.now.stand.run.now c.next_place-next.result c.index-run-next.result
    (stand_wide _ (g.R.RowReads.rows c.args.rows.now) c.args.prefix.now _ c.args.place.now.stand.run.now _ _ c.requires.deep c.width.ensures.is_set c.requires.stand)
    (omega (arith, c.if-run-next.false)) c.index-run-next.is

pub returns : goal.returns
returns g c =
    let lt : c.next_place-next.result < length c.args.place.now.stand.run.now = omega (arith, c.if-run-next.false) in
    moved (g.R.RowReads.rows c.args.rows.now) c.args.prefix.now _ c.args.bound c.args.place.now.stand.run.now _ c.args.place.now.stand.is_whole c.next_place-next.result c.cell_in-key.result
    c.width.ensures.is_set.rises c.requires.stand c.requires.above lt
    (next_low (g.R.RowReads.rows c.args.rows.now) c.args.prefix.now _ c.args.bound c.args.place.now.stand.run.now _ _ c.next_place-next.result c.requires.stand c.requires.above c.next_place-next.ensures.one c.next_place-next.ensures.end)
    (cell_here c.args.place.now.stand.run.now c.next_place-next.result (length c.args.prefix.now) c.index-run-next.result lt c.index-run-next.is ∙ sym c.cell_in-key.ensures) (omega (arith, c.if-key-bound.false))
