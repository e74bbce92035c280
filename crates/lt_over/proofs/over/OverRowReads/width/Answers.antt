use Rattle.std.proofs.Common.{subst, ℕ}
use Rattle.std.specs.List.{AllByRecursion}
use Rattle.lt_face.specs.Rows.{IsRow}
use Rattle.lt_over.proofs.Overlays.{IsRowSet-overlaid}
use Rattle.lt_over.proofs.over.OverRowReads.width.Goals as goal

pub returns-clause-is_set : goal.returns-clause-is_set
returns-clause-is_set g c =
    let more = subst (λ (w : ℕ). AllByRecursion (IsRow w) c.self.inside.layer.come) c.self.invariant.0 c.width-width.ensures.is_layer.come.each in
    rw (← c.self.view_is)
    (IsRowSet-overlaid (g.B.RowReads.width_of c.self.inside.base) (g.B.RowReads.rows c.self.inside.base) c.self.inside.layer.gone c.self.inside.layer.come c.width.ensures.is_set more)
