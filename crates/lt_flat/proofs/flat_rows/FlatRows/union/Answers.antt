use Rattle.std.proofs.Common.{◌≡◌, List, fold, sym, ap, ◌∙◌, subst}
use Rattle.lt_face.specs.Rows.{IsRowSet, with_row}
use Rattle.lt_face.specs.State.{Relation, Row}
use Rattle.lt_flat.proofs.Merges.{after_empty, IsRowSet-union}
use Rattle.lt_flat.proofs.flat_rows.FlatRows.union.Goals as goal

pub returns-then-len-eq0-clause-rows : goal.returns-then-len-eq0-clause-rows
returns-then-len-eq0-clause-rows c =
    c.in_ok-same.ensures.rows ∙ after_empty c.args.self.now.rows c.args.more.now.rows (sym c.len.ensures ∙ c.if-len-eq0.true) c.as_slice-rows.ensures.is_set.rises

pub invariant_of-result : goal.invariant_of-result
invariant_of-result c =
    let mine = c.self.inside.rows in
    let its = c.more.inside.rows in
    let same : c.more.inside.width ≡ c.self.inside.width = ap (λ (r : Relation). r.width) c.more.view_is ∙ c.requires ∙ ap (λ (r : Relation). r.width) (sym c.self.view_is) in
    let more : IsRowSet c.self.inside.width its = subst (λ w. IsRowSet w its) same c.more.invariant.1 in
    let all : c.in_ok-rows-2.rows ≡ fold with_row mine its =
    c.in_ok-rows-2.ensures ∙ c.in_ok-rows.ensures ∙ ap (λ (l : List Row). fold with_row l c.as_slice-2.result.now) c.as_slice.ensures ∙ ap (λ (l : List Row). fold with_row mine l) c.as_slice-2.ensures in
    (c.self.invariant.0, subst (λ (l : List Row). IsRowSet c.self.inside.width l) (sym all) (IsRowSet-union c.self.inside.width mine its c.self.invariant.1 more))
