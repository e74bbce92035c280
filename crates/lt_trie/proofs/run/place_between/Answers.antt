use Rattle.std.proofs.Common.{◌<◌, ◌+◌, ◌-◌, ◌/◌, arith}
use Rattle.lt_trie.proofs.Runs.{high_from}
use Rattle.lt_trie.proofs.run.place_between.Goals as goal

pub loop-low-preserved : goal.loop-low-preserved
loop-low-preserved c =
    let middle = c.loop-low.low + (c.loop-low.high - c.loop-low.low) / 2 in
    let lt : middle < c.loop-low.high = omega (arith, c.loop-low-test.true) in
    record {
      order = omega arith;
      within = omega (arith, lt, c.loop-low.invariant.within);
      below = c.loop-low.invariant.below;
      above = high_from c.args.run.now middle c.args.column c.args.bound c.index-run-middle.result c.requires.rising (omega (arith, lt, c.loop-low.invariant.within)) c.index-run-middle.is (omega (arith, c.cell_in.ensures, c.if-cell_in-bound.false));
    }
