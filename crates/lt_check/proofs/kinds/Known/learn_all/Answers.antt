use Rattle.std.proofs.Common.{refl}
use Rattle.lt_check.specs.Narrowing.{all_fit}
use Rattle.lt_check.specs.Seen.{seen}
use Rattle.lt_check.proofs.Narrowing.{Narrows_and}
use Rattle.lt_check.proofs.kinds.Known.learn_all.Goals as goal

pub returns : goal.returns
returns c =
    rw c.and.ensures
    (Narrows_and _ _ (all_fit c.args.schema.now c.args.names.now (seen c.args.atoms.now) c.args.body.now) _ _ _ _ _ (λ choice. refl) c.learn_atoms-from_atoms.ensures c.learn_literals-from_literals.ensures)
