use Rattle.std.proofs.Common.{◌≡◌, ◌<◌, ◌≤◌, ◌+◌, ◌-◌, ℕ, length, subst, arith}
use Rattle.lt_trie.specs.Stand.{cell_at}
use Rattle.lt_trie.proofs.Runs.{low_to, high_from}
use Rattle.lt_trie.proofs.run.place_behind.Goals as goal

pub place_between-requires-clause-above : goal.place_between-requires-clause-above
place_between-requires-clause-above c =
    high_from c.args.run.now (c.loop-stride.low + c.loop-stride.stride - 1) c.args.column c.args.bound c.index-run-next.result c.requires.rising
    (omega (arith, c.loop-stride.invariant.some, c.loop-stride.invariant.within, c.loop-stride-test.true)) c.index-run-next.is (omega (arith, c.cell_in.ensures, c.if-bound-cell_in.true))

pub loop-stride-preserved : goal.loop-stride-preserved
loop-stride-preserved c =
    let le : c.loop-stride.low + c.loop-stride.stride ≤ length c.args.run.now = omega (arith, c.loop-stride.invariant.within, c.loop-stride-test.true) in
    let at : c.loop-stride.low + c.loop-stride.stride - 1 + 1 ≡ c.loop-stride.low + c.loop-stride.stride = omega (arith, c.loop-stride.invariant.some) in
    record {
      some = omega (arith, c.loop-stride.invariant.some);
      behind = omega (arith, c.loop-stride.invariant.behind);
      within = le;
      below = subst (λ n. (i : ℕ) → i < n → cell_at c.args.run.now i c.args.column < c.args.bound) at
          (low_to c.args.run.now (c.loop-stride.low + c.loop-stride.stride - 1) c.args.column c.args.bound c.index-run-next.result c.requires.rising (omega (arith, c.loop-stride.invariant.some, le)) c.index-run-next.is (omega (arith, c.cell_in.ensures, c.if-bound-cell_in.false)));
    }
