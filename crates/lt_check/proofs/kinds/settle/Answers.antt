use Rattle.std.proofs.Common.{refl, ◌∙◌}
use Rattle.lt_check.specs.Narrowing.{all_fit}
use Rattle.lt_check.specs.Seen.{seen}
use Rattle.lt_check.proofs.Narrowing.{not_true}
use Rattle.lt_check.proofs.kinds.settle.Goals as goal

pub returns-in-Conflict : goal.returns-in-Conflict
returns-in-Conflict c choice l =
    not_true (all_fit c.args.schema.now c.args.names.now (seen c.args.atoms.now) c.args.body.now choice)
    (λ e. (c.in-Conflict.ensures.keeps choice (c.loop.invariant.1 choice l e) e).0 refl)

pub loop-preserved : goal.loop-preserved
loop-preserved c =
    (c.learn_all.ensures.long ∙ c.loop.invariant.0, λ choice l e. (c.learn_all.ensures.keeps choice (c.loop.invariant.1 choice l e) e).1)
