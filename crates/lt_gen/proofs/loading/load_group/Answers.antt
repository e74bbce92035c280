use Rattle.std.proofs.Common.{◌≡◌, ◌≤◌, ◌∙◌, ◌+◌, ◌*◌, sym, ap, arith}
use Rattle.lt_gen.specs.Script.{stock_of}
use Rattle.lt_gen.proofs.Grouping.{group-more, group-whole}
use Rattle.lt_gen.proofs.loading.load_group.Goals as goal

pub rows-preserved : goal.rows-preserved
rows-preserved c =
    let seed = c.args.draws.now.seed in
    let row = c.whole.ensures ∙ c.in_ok-row.ensures.statement ∙ ap (λ s. stock_of s (c.rows.before + 1)) c.rows.invariant.seed in
    record {
      group = c.in_ok-push.ensures.ok ∙ group-more (stock_of seed) (64 * c.args.j) c.rows.before c.rows.group _ c.rows.auto.before c.rows.invariant.group row;
      seed = c.in_ok-row.ensures.seed ∙ c.rows.invariant.seed;
      count = c.in_ok-row.ensures.count;
    }

pub returns-clause-group : goal.returns-clause-group
returns-clause-group c =
    let end = c.group_end-end.result in
    let starts : 64 * c.args.j ≤ end = omega (arith, c.group_end-end.ensures) in
    let within : c.rows.before ≤ end = c.rows.auto.before-end starts in
    let at_end : c.rows.before ≡ end = omega (arith, within, c.rows-test.false) in
    c.rows.invariant.group ∙ sym (group-whole (stock_of c.args.draws.now.seed) c.args.items c.args.j c.rows.before (at_end ∙ c.group_end-end.ensures))
