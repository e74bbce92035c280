use Rattle.std.proofs.Common.{◌≡◌, ℕ, false, sym, ◌∙◌, subst}
use Rattle.std.specs.List.{AllByRecursion}
use Rattle.lt_face.specs.Rows.{IsRow, has_row, without_row}
use Rattle.lt_face.specs.State.{Relation}
use Rattle.lt_face.proofs.RowLemmas.{without_row-absent}
use Rattle.lt_face.proofs.Walked.{each_has}
use Rattle.lt_over.specs.Overlaid.{overlaid}
use Rattle.lt_over.proofs.Overlays.{IsRowSet-overlaid}
use Rattle.lt_over.proofs.over.OverRowSet.remove.Goals as goal

pub returns-then-not-has_over-clause-ok : goal.returns-then-not-has_over-clause-ok
returns-then-not-has_over-clause-ok g c =
    let off : has_row c.args.self.now.rows c.args.row.now ≡ false = subst (λ (v : Relation). has_row v.rows c.args.row.now ≡ false) c.self.view_is (sym c.has_over.ensures ∙ c.if-not-has_over.true) in
    let same : without_row c.args.self.now.rows c.args.row.now ≡ c.args.self.now.rows = without_row-absent c.args.self.now.rows c.args.row.now off in
    sym same

pub take-requires : goal.take-requires
take-requires g c =
    let w = g.B.RowReads.width_of c.self.inside.base in
    let base = g.B.RowReads.rows c.self.inside.base in
    let gone = c.self.inside.layer.gone in
    let come = c.self.inside.layer.come in
    let more = subst (λ (n : ℕ). AllByRecursion (IsRow n) come) c.self.invariant.0 c.width-width-2.ensures.is_layer.come.each in
    let set = IsRowSet-overlaid w base gone come c.width-width.ensures.is_set more in
    let one : IsRow w c.args.row.now = each_has (IsRow w) (overlaid base gone come) c.args.row.now set.each (sym c.has_over.ensures ∙ c.if-not-has_over.false) in
    subst (λ (n : ℕ). IsRow n c.args.row.now) (sym c.self.invariant.0) one
