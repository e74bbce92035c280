use Rattle.std.proofs.Common.{◌≡◌, ◌<◌, ◌≤◌, ◌+◌, ◌-◌, ◌/◌, ℕ, length, sym, ◌∙◌, subst, arith, is_some, get_or, [], false}
use Rattle.lt_trie.specs.Under.{next_cell}
use Rattle.lt_trie.proofs.Runs.{under_to, others_from, all_under, all_others}
use Rattle.lt_trie.proofs.run.count_before.Goals as goal

pub loop-low-preserved-then-begins_with : goal.loop-low-preserved-then-begins_with
loop-low-preserved-then-begins_with c =
    let middle = c.loop-low.low + (c.loop-low.high - c.loop-low.low) / 2 in
    let lt : middle < c.loop-low.high = omega (arith, c.loop-low-test.true) in
    record {
      order = omega (arith, lt);
      within = c.loop-low.invariant.within;
      under = under_to c.args.prefix.now c.args.run.now middle c.index-run-middle.result c.requires.first (omega (arith, lt, c.loop-low.invariant.within)) c.index-run-middle.is (sym c.begins_with.ensures ∙ c.if-begins_with.true);
      others = c.loop-low.invariant.others;
    }

pub loop-low-preserved : goal.loop-low-preserved
loop-low-preserved c =
    let middle = c.loop-low.low + (c.loop-low.high - c.loop-low.low) / 2 in
    let lt : middle < c.loop-low.high = omega (arith, c.loop-low-test.true) in
    record {
      order = omega arith;
      within = omega (arith, lt, c.loop-low.invariant.within);
      under = c.loop-low.invariant.under;
      others = others_from c.args.prefix.now c.args.run.now middle c.index-run-middle.result c.requires.first (omega (arith, lt, c.loop-low.invariant.within)) c.index-run-middle.is (sym c.begins_with.ensures ∙ c.if-begins_with.false);
    }

pub returns-clause-under : goal.returns-clause-under
returns-clause-under c = all_under c.args.prefix.now c.args.run.now c.loop-low.low c.loop-low.invariant.under (omega (arith, c.loop-low.invariant.order, c.loop-low.invariant.within))

pub returns-clause-others : goal.returns-clause-others
returns-clause-others c =
    let same : c.loop-low.high ≡ c.loop-low.low = omega (arith, c.loop-low.invariant.order, c.loop-low-test.false) in
    all_others c.args.prefix.now c.args.run.now c.loop-low.low
    (subst (λ n. (i : ℕ) → n ≤ i → i < length c.args.run.now → is_some (next_cell c.args.prefix.now (get_or c.args.run.now i [])) ≡ false) same c.loop-low.invariant.others)
