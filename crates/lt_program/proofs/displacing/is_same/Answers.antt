use Rattle.std.proofs.Common.{◌∙◌, sym}
use lib.Pointwise.{bytes_decides}
use Rattle.lt_program.proofs.Clashes.{same_told}
use Rattle.lt_program.proofs.displacing.is_same.Goals as goal

pub returns : goal.returns
returns c = same_told c.args.row.now c.args.other.now c.eq.result c.cells.ensures.cells c.cells-2.ensures.cells (λ h. (bytes_decides _ _).0 (sym c.eq.ensures ∙ h)) (λ h. c.eq.ensures ∙ (bytes_decides _ _).1 h)
