use Rattle.std.proofs.Common.{◌≡◌, ◌<◌, length, drop, ap, sym, ◌∙◌, subst, arith, is_some}
use Rattle.lt_trie.specs.Under.{next_cell}
use Rattle.lt_trie.proofs.Runs.{rest_some}
use Rattle.lt_trie.proofs.run.begins_with.Goals as goal

pub returns : goal.returns
returns c =
    let p = c.args.prefix.now in
    let r = c.args.row.now in
    let same = ap length c.cells-cells.ensures.cells in
    let wide : length p < length r = omega (arith, c.if-prefix-cells.false, same) in
    let at : c.loop-i.i ≡ length p = omega (arith, c.loop-i-test.false, c.loop-i.auto.i-end) in
    let all : next_cell p r ≡ next_cell (drop (length p) p) (drop (length p) r) = subst (λ i. next_cell p r ≡ next_cell (drop i p) (drop i r)) at c.loop-i.invariant in
    sym (ap is_some all ∙ rest_some p r wide)
