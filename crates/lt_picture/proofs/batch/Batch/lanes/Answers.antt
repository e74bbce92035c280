use Rattle.std.proofs.Common.{◌<◌, ◌∙◌, List, All, get_or, ap, subst, arith}
use Rattle.std.proofs.lemmas.List.{take_all}
use Rattle.std.proofs.lemmas.List.Elements.{All-more}
use Rattle.lt_picture.specs.declared.batch.Bar.{Bar}
use Rattle.lt_picture.proofs.batch.Batch.lanes.Goals as goal

pub loop-bar-preserved : goal.loop-bar-preserved
loop-bar-preserved c =
    let before = c.loop-bar.invariant in
    let xs = c.args.self.now.bars.items in
    record {
      some = omega (arith, before.some, c.max-lanes.ensures);
      few = omega (arith, before.few, c.bar-item.result.lane, c.max-lanes.ensures);
      all = All-more (λ (bar : Bar). bar.worker < c.max-lanes.result) xs c.loop-bar.bar-index c.bar-item.result (omega (arith, c.loop-bar-test.true)) (λ k d below. omega (arith, before.all k d below, c.max-lanes.ensures)) (subst (λ (bar : Bar). bar.worker < c.max-lanes.result) (c.bar-item.is ∙ ap (λ (bars : List Bar). get_or bars c.loop-bar.bar-index c.bar-item.result) c.deref-bar-items.ensures.value) (omega (arith, c.max-lanes.ensures)));
    }

pub returns-clause-all : goal.returns-clause-all
returns-clause-all c = subst (All (λ (bar : Bar). bar.worker < c.loop-bar.lanes)) (take_all c.loop-bar.bar-index c.args.self.now.bars.items (omega (arith, c.loop-bar-test.false))) c.loop-bar.invariant.all
