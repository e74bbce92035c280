use Rattle.std.proofs.Common.{ap, sym, ◌∙◌}
use Rattle.std.specs.Borrow.{Bor}
use Rattle.lt_model.specs.declared.syntax.Head.{Head}
use Rattle.lt_check.proofs.Columned.{column_at}
use Rattle.lt_check.proofs.Narrowing.{Narrows_atom}
use Rattle.lt_check.proofs.kinds.Known.learn_atoms.Goals as goal

pub loop-i-preserved : goal.loop-i-preserved
loop-i-preserved c =
    rw c.and-told.ensures
    (Narrows_atom c.args.schema.now c.args.names.now c.args.atoms.now c.loop-i.i c.index-atoms-i.result _ _ _ _ _ _ _ c.loop-i-test.true c.index-atoms-i.is (c.as_slice.ensures ∙ ap (λ (y : Bor Head). y.now.terms) (sym c.index-atoms-i.is)) (column_at c.args.schema.now c.args.atoms.now c.args.columns.now c.loop-i.i c.index-atoms-i.result _ c.loop-i-test.true c.requires c.index-atoms-i.is) c.loop-i.invariant c.learn_row.ensures)
