use Rattle.std.proofs.Common.{◌≡◌, refl, sym, ap, ◌∙◌, subst}
use Rattle.lt_face.specs.Rows.{with_row}
use Rattle.lt_face.specs.State.{Relation}
use Rattle.lt_over.specs.Layers.{under}
use Rattle.lt_over.specs.Overlaid.{overlaid}
use Rattle.lt_over.proofs.Overlays.{ascending-overlaid, in_rows, with_there}
use Rattle.lt_over.proofs.over.OverRowSet.insert.Goals as goal

pub returns-then-has_over-clause-ok : goal.returns-then-has_over-clause-ok
returns-then-has_over-clause-ok g c =
    let base = g.B.RowReads.rows c.self.inside.base in
    let gone = c.self.inside.layer.gone in
    let come = c.self.inside.layer.come in
    let here = with_there (overlaid base gone come) c.args.row (ascending-overlaid base gone come c.width-width.ensures.is_set.rises) (sym c.has_over.ensures ∙ c.if-has_over.true) in
    let same : with_row c.args.self.now.rows c.args.row ≡ c.args.self.now.rows = subst (λ (v : Relation). with_row v.rows c.args.row ≡ v.rows) c.self.view_is here in
    sym same

pub returns-clause-ok : goal.returns-clause-ok
returns-clause-ok g c =
    let base = g.B.RowReads.rows c.self.inside.base in
    let gone = c.self.inside.layer.gone in
    let come = c.self.inside.layer.come in
    ap (under base) c.in_ok-put_row.ensures.ok
    ∙ in_rows base gone come (with_row come c.args.row) c.args.row c.width-width.ensures.is_set.rises refl
    ∙ ap (λ (v : Relation). with_row v.rows c.args.row) c.self.view_is
