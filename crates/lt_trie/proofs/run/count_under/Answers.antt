use Rattle.std.proofs.Common.{◌-◌, length, sym, ◌∙◌, arith}
use Rattle.lt_trie.proofs.Runs.{under_to, others_from, all_under}
use Rattle.lt_trie.proofs.run.count_under.Goals as goal

pub count_before-requires-clause-others : goal.count_before-requires-clause-others
count_before-requires-clause-others c =
    others_from c.args.prefix.now c.args.run.now (length c.args.run.now - 1) c.index-run-last.result c.requires (omega (arith, c.if-count-eq0.false)) c.index-run-last.is (sym c.begins_with.ensures ∙ c.if-begins_with.false)

pub returns-then-begins_with-clause-under : goal.returns-then-begins_with-clause-under
returns-then-begins_with-clause-under c =
    let all = under_to c.args.prefix.now c.args.run.now (length c.args.run.now - 1) c.index-run-last.result c.requires (omega (arith, c.if-count-eq0.false)) c.index-run-last.is (sym c.begins_with.ensures ∙ c.if-begins_with.true) in
    all_under c.args.prefix.now c.args.run.now (length c.args.run.now) (λ i lt. all i (omega (arith, lt))) (omega arith)
