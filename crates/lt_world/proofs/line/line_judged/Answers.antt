use Rattle.std.proofs.Common.{◌≡◌, [], ◌∷◌, ◌++◌, List, map, subst, sym, ap, ◌∙◌}
use Rattle.std.proofs.lemmas.List.{map-append}
use Rattle.std.specs.Global.{Vec}
use Rattle.std.specs.List.{AllByRecursion}
use Rattle.lt_model.specs.declared.syntax.Program.{Program}
use Rattle.lt_model.specs.Check.{Checked, checked}
use Rattle.lt_model.specs.Limits.{IsProgramWithin}
use Rattle.lt_model.specs.Schema.{Schema}
use Rattle.lt_check.specs.States.{IsStateOf}
use Rattle.lt_base.proofs.Grown.{grown_map}
use Rattle.lt_world.specs.declared.batch.Judgement.{Judgement}
use Rattle.lt_world.specs.Batches.{checked_of, FitsIfGood}
use Rattle.lt_world.specs.Lines.{checks_of}
use Rattle.lt_world.proofs.Columns.{AllByRecursion-push}
use Rattle.lt_world.proofs.Lined.{within_at}
use Rattle.lt_world.proofs.line.line_judged.Goals as goal

pub judge_all-requires : goal.judge_all-requires
judge_all-requires c =
    subst (AllByRecursion IsProgramWithin) (sym c.as_slice.ensures) (within_at c.args.batches.now c.loop-programs.programs-index c.programs-item.result c.loop-programs-test.true c.programs-item.is c.requires).0

pub loop-programs-preserved : goal.loop-programs-preserved
loop-programs-preserved c =
    let old : List (Vec Judgement) = c.loop-programs.all.items in
    let judged : Vec Judgement = c.in_ok-judgements.judgements in
    let pushed : checks_of c.push.new.self.items ≡ checks_of (old ++ judged ∷ []) = ap checks_of c.in_ok-push.ensures.items in
    let here : map checked_of judged.items ≡ map (λ (p : Program). checked p c.args.schema.now) c.programs-item.result =
    c.in_ok-judgements.ensures.checked
    ∙ (ap (λ (h : Schema). map (λ (p : Program). checked p h) c.as_slice.result.now) c.loop-programs.invariant.2
    ∙ ap (λ (ps : List Program). map (λ (p : Program). checked p c.args.schema.now) ps) c.as_slice.ensures) in
    let before = c.loop-programs.invariant in (
      pushed
          ∙ grown_map (λ (js : Vec Judgement). map checked_of js.items) (λ (ps : List Program). map (λ (p : Program). checked p c.args.schema.now) ps) old c.args.batches.now c.loop-programs.programs-index judged c.programs-item.result
          c.loop-programs-test.true c.programs-item.is here before.0,
      λ state s.
          subst (AllByRecursion (λ (cs : List Checked). AllByRecursion (FitsIfGood state) cs)) (sym (pushed ∙ map-append (λ (js : Vec Judgement). map checked_of js.items) old (judged ∷ [])))
          (AllByRecursion-push (λ (cs : List Checked). AllByRecursion (FitsIfGood state) cs) (checks_of old) (map checked_of judged.items) (before.1 state s) (c.in_ok-judgements.ensures.fit state (subst (λ (h : Schema). IsStateOf h state) (sym before.2) s))),
      c.judge_all.ensures.same ∙ before.2,
    )
