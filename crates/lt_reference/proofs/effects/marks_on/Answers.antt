use Rattle.std.proofs.Common.{sym, subst}
use Rattle.lt_program.specs.Effect.{HaveCells}
use Rattle.lt_reference.specs.Ready.{AreRows}
use Rattle.lt_reference.proofs.MarkedCells.{HaveCells-map}
use Rattle.lt_reference.proofs.effects.marks_on.Goals as goal

pub returns-clause-cells : goal.returns-clause-cells
returns-clause-cells c =
    subst HaveCells (sym c.in_ok-marks.ensures) (HaveCells-map c.args.relation c.args.plus c.as_slice.result.now (subst AreRows (sym c.as_slice.ensures) c.requires.cells))
