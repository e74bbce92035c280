use Rattle.std.proofs.Common.{◌≡◌, List, sym, ap, ◌∙◌, subst}
use Rattle.lt_face.specs.Rows.{IsRowSet}
use Rattle.lt_face.specs.State.{Row}
use Rattle.lt_flat.specs.Flat.{kept}
use Rattle.lt_flat.proofs.Merges.{without_none, IsRowSet-difference}
use Rattle.lt_flat.proofs.flat_rows.FlatRows.difference.Goals as goal

pub returns-then-len-eq0-clause-rows : goal.returns-then-len-eq0-clause-rows
returns-then-len-eq0-clause-rows c =
    c.in_ok-same.ensures.rows ∙ without_none c.args.self.now.rows c.args.less.now.rows (sym c.len.ensures ∙ c.if-len-eq0.true)

pub invariant_of-result : goal.invariant_of-result
invariant_of-result c =
    let mine = c.self.inside.rows in
    let its = c.less.inside.rows in
    let left : c.in_ok-rows-2.rows ≡ kept mine its =
    c.in_ok-rows-2.ensures ∙ c.in_ok-rows.ensures ∙ ap (λ (l : List Row). kept l c.as_slice-2.result.now) c.as_slice.ensures ∙ ap (λ (l : List Row). kept mine l) c.as_slice-2.ensures in
    (c.self.invariant.0, subst (λ (l : List Row). IsRowSet c.self.inside.width l) (sym left) (IsRowSet-difference c.self.inside.width mine its c.self.invariant.1))
