use Rattle.std.proofs.Common.{[], ◌∷◌, map, subst, sym, ap, ◌∙◌}
use Rattle.std.proofs.lemmas.List.{map-append}
use Rattle.std.specs.List.{AllByRecursion}
use Rattle.lt_model.specs.declared.syntax.Program.{Program}
use Rattle.lt_model.specs.Check.{checked}
use Rattle.lt_base.proofs.Grown.{grown_map}
use Rattle.lt_world.specs.Batches.{checked_of, FitsIfGood}
use Rattle.lt_world.proofs.Columns.{AllByRecursion-push}
use Rattle.lt_world.proofs.judging.judged_by.Goals as goal

pub loop-program-preserved : goal.loop-program-preserved
loop-program-preserved c =
    let pushed = ap (map checked_of) c.in_ok-push.ensures.items in
    let before = c.loop-program.invariant in (
      pushed ∙ grown_map checked_of (λ (p : Program). checked p c.args.schema.now) c.loop-program.judgements.items c.args.programs.now c.loop-program.program-index c.in_ok-judgement.judgement c.program-item.result c.loop-program-test.true c.program-item.is c.in_ok-judgement.ensures.checked before.0,
      λ state s. subst (AllByRecursion (FitsIfGood state)) (sym (pushed ∙ map-append checked_of c.loop-program.judgements.items (c.in_ok-judgement.judgement ∷ []))) (AllByRecursion-push (FitsIfGood state) (map checked_of c.loop-program.judgements.items) (checked_of c.in_ok-judgement.judgement) (before.1 state s) (c.in_ok-judgement.ensures.fits state s)),
      c.judged.ensures.table,
    )
