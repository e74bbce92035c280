use Rattle.std.proofs.Common.{sym, subst}
use Rattle.std.specs.List.{AllByRecursion}
use Rattle.lt_face.specs.Rows.{IsCell}
use Rattle.lt_model.specs.declared.mark.Mark.{Mark}
use Rattle.lt_delta.proofs.Composes.{each_after}
use Rattle.lt_program.specs.Effect.{HaveCells}
use Rattle.lt_reference.specs.Ready.{WritesCells}
use Rattle.lt_reference.proofs.effects.behind.Goals as goal

pub returns-in_ok-all-in-Writes-clause-cells : goal.returns-in_ok-all-in-Writes-clause-cells
returns-in_ok-all-in-Writes-clause-cells c =
    subst HaveCells (sym c.in_ok-all-in-Writes.ensures) (each_after (λ (m : Mark). AllByRecursion IsCell m.row) _ _ c.requires.before (subst WritesCells c.in-Writes.is c.requires.cells))
