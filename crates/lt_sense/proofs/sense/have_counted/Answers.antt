use Rattle.std.proofs.Common.{◌<◌, ◌+◌, ◌^◌, ◌||◌, length, drop, sym, ap, ◌∙◌, subst, arith}
use Rattle.lt_face.proofs.RowLemmas.{each_at}
use Rattle.lt_sense.specs.declared.spans.Spans.{Spans}
use Rattle.lt_sense.specs.Gathered.{ranges_in}
use Rattle.lt_sense.specs.Spans.{have}
use Rattle.lt_sense.proofs.Costs.{cost_next, cost_all}
use Rattle.lt_sense.proofs.Having.{first_left}
use Rattle.lt_sense.proofs.sense.have_counted.Goals as goal

pub returns-then-has_counted-clause-value : goal.returns-then-has_counted-clause-value
returns-then-has_counted-clause-value n c =
    let lists = c.args.lists.now.items in
    let lt : c.loop-at.at < length lists = omega (arith, c.loop-at-test.true, c.len-at-end.ensures) in
    sym (c.loop-at.invariant.value ∙ first_left lists c.loop-at.at c.index.result.now c.args.relation c.args.row.now lt c.index.ensures
    ∙ ap (λ b. b || have (ranges_in (drop (c.loop-at.at + 1) lists)) c.args.relation c.args.row.now) (sym c.has_counted.ensures.value ∙ c.if-has_counted.true))

pub returns-then-has_counted-clause-steps : goal.returns-then-has_counted-clause-steps
returns-then-has_counted-clause-steps n c d fits =
    let lists = c.args.lists.now.items in
    let s = c.index.result.now in
    let lt : c.loop-at.at < length lists = omega (arith, c.loop-at-test.true, c.len-at-end.ensures) in
    let short : length s.ranges.items < 2 ^ d = subst (λ (x : Spans). length x.ranges.items < 2 ^ d) (sym c.index.ensures) (each_at (λ (x : Spans). length x.ranges.items < 2 ^ d) lists c.loop-at.at s fits lt) in
    cost_all c.args.relation lists (c.loop-at.at + 1) d c.args.steps.now c.has_counted.new.steps
    (cost_next c.args.relation lists c.loop-at.at s d c.args.steps.now c.loop-at.steps c.has_counted.new.steps lt c.index.ensures (c.loop-at.invariant.steps d fits) (c.has_counted.ensures.steps d short))

pub loop-at-preserved : goal.loop-at-preserved
loop-at-preserved n c =
    let lists = c.args.lists.now.items in
    let s = c.index.result.now in
    let lt : c.loop-at.at < length lists = omega (arith, c.loop-at-test.true, c.len-at-end.ensures) in
    record {
      value = c.loop-at.invariant.value ∙ first_left lists c.loop-at.at s c.args.relation c.args.row.now lt c.index.ensures
          ∙ ap (λ b. b || have (ranges_in (drop (c.loop-at.at + 1) lists)) c.args.relation c.args.row.now) (sym c.has_counted.ensures.value ∙ c.if-has_counted.false);
      steps = λ d fits. cost_next c.args.relation lists c.loop-at.at s d c.args.steps.now c.loop-at.steps c.has_counted.new.steps lt c.index.ensures (c.loop-at.invariant.steps d fits)
          (c.has_counted.ensures.steps d (subst (λ (x : Spans). length x.ranges.items < 2 ^ d) (sym c.index.ensures) (each_at (λ (x : Spans). length x.ranges.items < 2 ^ d) lists c.loop-at.at s fits lt)));
    }

pub returns-clause-steps : goal.returns-clause-steps
returns-clause-steps n c d fits = cost_all c.args.relation c.args.lists.now.items c.loop-at.at d c.args.steps.now c.loop-at.steps (c.loop-at.invariant.steps d fits)
