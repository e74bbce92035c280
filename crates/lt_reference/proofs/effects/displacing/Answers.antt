use Rattle.std.proofs.Common.{sym, subst}
use Rattle.std.specs.List.{AllByRecursion}
use Rattle.lt_face.specs.Rows.{IsCell}
use Rattle.lt_model.specs.declared.mark.Mark.{Mark}
use Rattle.lt_delta.proofs.Composes.{each_after}
use Rattle.lt_program.specs.Effect.{HaveCells}
use Rattle.lt_reference.proofs.effects.displacing.Goals as goal

pub returns-clause-cells : goal.returns-clause-cells
returns-clause-cells c = subst HaveCells (sym c.in_ok-marks.ensures) (each_after (λ (m : Mark). AllByRecursion IsCell m.row) _ _ c.in_ok-gone.ensures.cells c.in_ok-come.ensures.cells)
