use Rattle.std.proofs.Common.{◌≡◌, ◌≤◌, ◌∙◌, ◌+◌, ◌*◌, sym, ap, arith}
use Rattle.lt_gen.specs.Script.{buyer}
use Rattle.lt_gen.proofs.Grouping.{group-more, group-whole}
use Rattle.lt_gen.proofs.buying.buy_group.Goals as goal

pub programs-preserved : goal.programs-preserved
programs-preserved c =
    let seed = c.args.draws.now.seed in
    let program = c.in_ok-program.ensures.program ∙ ap (λ s. buyer s c.args.items (c.programs.before + 1)) c.programs.invariant.seed in
    record {
      group = c.in_ok-push.ensures.ok ∙ group-more (buyer seed c.args.items) (64 * c.args.j) c.programs.before c.programs.group _ c.programs.auto.before c.programs.invariant.group program;
      seed = c.in_ok-program.ensures.seed ∙ c.programs.invariant.seed;
      count = c.in_ok-program.ensures.count;
    }

pub returns-clause-group : goal.returns-clause-group
returns-clause-group c =
    let end = c.group_end-end.result in
    let starts : 64 * c.args.j ≤ end = omega (arith, c.group_end-end.ensures) in
    let within : c.programs.before ≤ end = c.programs.auto.before-end starts in
    let at_end : c.programs.before ≡ end = omega (arith, within, c.programs-test.false) in
    c.programs.invariant.group ∙ sym (group-whole (buyer c.args.draws.now.seed c.args.items) c.args.programs c.args.j c.programs.before (at_end ∙ c.group_end-end.ensures))
