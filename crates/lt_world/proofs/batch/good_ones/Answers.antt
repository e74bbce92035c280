use Rattle.std.proofs.Common.{[], ◌∷◌, ◌++◌, List, ap, sym, ◌∙◌}
use Rattle.lt_model.specs.declared.normal.Stmt.{Stmt}
use Rattle.lt_world.specs.Batches.{checked_of}
use Rattle.lt_world.proofs.Goods.{goods, one_good_more}
use Rattle.lt_world.proofs.batch.good_ones.Goals as goal

pub loop-judgement-preserved : goal.loop-judgement-preserved
loop-judgement-preserved c =
    c.in_ok-push_good.ensures
    ∙ ap (λ (ps : List (List Stmt)). ps ++ goods (checked_of c.judgement-item.result ∷ [])) c.loop-judgement.invariant
    ∙ sym (one_good_more c.args.judgements.now c.loop-judgement.judgement-index c.judgement-item.result c.loop-judgement-test.true c.judgement-item.is)
