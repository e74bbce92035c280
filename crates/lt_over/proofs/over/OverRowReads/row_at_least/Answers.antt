use Rattle.std.proofs.Common.{List, ap, ◌∙◌}
use Rattle.std.specs.Option.{option_copied}
use Rattle.lt_face.specs.Rows.{first_from}
use Rattle.lt_face.specs.State.{Row}
use Rattle.lt_over.proofs.Firsts.{first-overlaid}
use Rattle.lt_over.proofs.over.OverRowReads.row_at_least.Goals as goal

pub returns : goal.returns
returns g c =
    rw (← c.self.view_is)
    (first-overlaid (g.B.RowReads.rows c.self.inside.base) c.self.inside.layer.gone c.self.inside.layer.come c.args.from.now (option_copied c.row_at_least-more.result)
    (option_copied c.least_from.result) c.width-width-2.ensures.is_layer.come.rises (c.row_at_least-more.ensures ∙ ap (λ (rows : List Row). first_from rows c.args.from.now) c.come.ensures.rows) (c.least_from.ensures c.args.from.now c.row_at_least-first.ensures))
