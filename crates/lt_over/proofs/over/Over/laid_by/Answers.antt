use Rattle.std.proofs.Common.{List, ap, ◌∙◌}
use Rattle.lt_face.specs.State.{Relation, Row}
use Rattle.lt_over.specs.Layers.{under}
use Rattle.lt_over.proofs.over.Over.laid_by.Goals as goal

pub returns-clause-rows : goal.returns-clause-rows
returns-clause-rows g c =
    ap (λ (rows : List Row). under rows c.in_ok-layer.layer) c.in_ok-base.ensures.rows
    ∙ c.in_ok-layer.ensures.rows (g.B.RowReads.rows c.self.inside.base) c.width-width.ensures.is_set.rises
    ∙ ap (λ (v : Relation). under v.rows c.args.more.now) c.self.view_is
