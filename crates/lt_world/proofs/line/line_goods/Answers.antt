use Rattle.std.proofs.Common.{◌∙◌, ap, map}
use Rattle.std.specs.Global.{Vec}
use Rattle.std.specs.Prelude.{filter_map}
use Rattle.std.specs.Arc.{arc_value}
use Rattle.lt_model.specs.Report.{good_of}
use Rattle.lt_base.proofs.Grown.{grown_map}
use Rattle.lt_batch.specs.Line.{programs_of}
use Rattle.lt_world.specs.declared.batch.Judgement.{Judgement}
use Rattle.lt_world.specs.Batches.{checked_of, good_ones}
use Rattle.lt_world.proofs.line.line_goods.Goals as goal

pub loop-judgements-preserved : goal.loop-judgements-preserved
loop-judgements-preserved c =
    ap programs_of c.in_ok-push.ensures.items
    ∙ grown_map (λ batch. map arc_value batch.items) (λ (js : Vec Judgement). good_ones js.items) c.loop-judgements.all.items c.args.judged.now c.loop-judgements.judgements-index c.in_ok-good.good c.judgements-item.result
    c.loop-judgements-test.true c.judgements-item.is (c.in_ok-good.ensures ∙ ap (λ js. filter_map good_of (map checked_of js)) c.deref.ensures.value) c.loop-judgements.invariant
