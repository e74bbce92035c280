use Rattle.std.proofs.Common.{◌≡◌, ◌<◌, length, sym, subst, ◌∙◌, arith, drop, None}
use Rattle.std.specs.List.{AllByRecursion}
use Rattle.lt_trie.specs.Under.{next_cell}
use Rattle.lt_trie.proofs.Runs.{cell_here}
use Rattle.lt_trie.proofs.Stands.{come_first, landed_none, landed_found, run_wide, wide_at}
use Rattle.lt_trie.proofs.stand.land.Goals as goal

pub count_under-count-requires : goal.count_under-count-requires
count_under-count-requires g c = come_first c.args.prefix.now c.args.bound (g.R.RowReads.rows c.args.rows.now) c.rows_near-run.result.now c.width.ensures.is_set.rises c.rows_near-run.ensures.run c.rows_near-run.ensures.first

pub returns-then-count-eq0 : goal.returns-then-count-eq0
returns-then-count-eq0 g c =
    landed_none (g.R.RowReads.rows c.args.rows.now) c.args.prefix.now c.args.bound c.rows_near-run.result.now _ _ _ c.width.ensures.is_set.rises c.rows_near-run.ensures.first
    (subst (λ n. AllByRecursion (λ r. next_cell c.args.prefix.now r ≡ None) (drop n c.rows_near-run.result.now)) c.if-count-eq0.true c.count_under-count.ensures.others)

pub cell_in-requires : goal.cell_in-requires
cell_in-requires g c =
    let lt : 0 < length c.rows_near-run.result.now = omega (arith, c.if-count-eq0.false, c.count_under-count.ensures.within) in
    wide_at (length c.args.prefix.now) c.rows_near-run.result.now 0 c.index-run-0.result
    (run_wide (g.R.RowReads.width_of c.args.rows.now) (length c.args.prefix.now) (g.R.RowReads.rows c.args.rows.now) c.rows_near-run.result.now c.requires c.width.ensures.is_set c.rows_near-run.ensures.run)
    lt c.index-run-0.is

pub returns : goal.returns
returns g c =
    let some : 0 < c.count_under-count.result = omega (arith, c.if-count-eq0.false) in
    let lt : 0 < length c.rows_near-run.result.now = omega (arith, some, c.count_under-count.ensures.within) in
    landed_found (g.R.RowReads.rows c.args.rows.now) c.args.prefix.now c.args.bound c.rows_near-run.result.now c.count_under-count.result c.cell_in.result c.width.ensures.is_set.rises
    c.rows_near-run.ensures.run c.rows_near-run.ensures.first some c.count_under-count.ensures.within c.count_under-count.ensures.under c.count_under-count.ensures.others
    (cell_here c.rows_near-run.result.now 0 (length c.args.prefix.now) c.index-run-0.result lt c.index-run-0.is ∙ sym c.cell_in.ensures)
