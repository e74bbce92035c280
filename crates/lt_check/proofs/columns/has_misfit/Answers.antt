use Rattle.std.proofs.Common.{◌||◌, ◌+◌, drop, ap, sym, ◌∙◌}
use Rattle.std.specs.List.{list_any}
use Rattle.lt_model.specs.Check.{is_misfit}
use Rattle.lt_check.specs.Seen.{seen}
use Rattle.lt_check.proofs.Columned.{misfit_more}
use Rattle.lt_check.proofs.columns.has_misfit.Goals as goal

pub returns-then-is_other_length : goal.returns-then-is_other_length
returns-then-is_other_length c =
    let others = list_any (is_misfit c.args.schema.now) (seen (drop (c.loop-i.i + 1) c.args.atoms.now)) in
    sym (sym c.loop-i.invariant
    ∙ misfit_more c.args.schema.now c.args.atoms.now c.args.columns.now c.loop-i.i c.index-atoms-i.result _ _ c.loop-i-test.true c.requires c.index-atoms-i.is c.is_other_length.ensures
    ∙ ap (λ b. b || others) c.if-is_other_length.true)

pub loop-i-preserved : goal.loop-i-preserved
loop-i-preserved c =
    let others = list_any (is_misfit c.args.schema.now) (seen (drop (c.loop-i.i + 1) c.args.atoms.now)) in
    sym (misfit_more c.args.schema.now c.args.atoms.now c.args.columns.now c.loop-i.i c.index-atoms-i.result _ _ c.loop-i-test.true c.requires c.index-atoms-i.is c.is_other_length.ensures
    ∙ ap (λ b. b || others) c.if-is_other_length.false)
    ∙ c.loop-i.invariant
