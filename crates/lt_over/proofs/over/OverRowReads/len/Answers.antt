use Rattle.std.proofs.Common.{◌≡◌, ◌+◌, ◌≤◌, not, List, length, ap, ◌∙◌, arith}
use Rattle.std.specs.Prelude.{filter}
use Rattle.lt_face.specs.Rows.{has_row}
use Rattle.lt_face.specs.State.{Relation, Row}
use Rattle.lt_over.specs.Overlaid.{overlaid, stays}
use Rattle.lt_over.proofs.Counts.{overlaid_count, le_all}
use Rattle.lt_over.proofs.over.OverRowReads.len.Goals as goal

pub overflow_add-result : goal.overflow_add-result
overflow_add-result g c =
    let base = g.B.RowReads.rows c.self.inside.base in
    let put : c.count_lacked-put.result ≡ length (filter (λ r. not (has_row base r)) c.self.inside.layer.come) = c.count_lacked-put.ensures ∙ ap (λ (rows : List Row). length (filter (λ r. not (has_row base r)) rows)) (c.as_slice.ensures.rows ∙ c.come-come.ensures.rows) in
    let most : length (filter (λ r. not (has_row base r)) c.self.inside.layer.come) ≤ length c.self.inside.layer.come = le_all (λ r. not (has_row base r)) c.self.inside.layer.come in
    omega (arith, c.self.invariant.2, put, most, c.self.invariant.1)

pub overflow_sub-result : goal.overflow_sub-result
overflow_sub-result g c =
    let base = g.B.RowReads.rows c.self.inside.base in
    let gone = c.self.inside.layer.gone in
    let come = c.self.inside.layer.come in
    let put : c.count_lacked-put.result ≡ length (filter (λ r. not (has_row base r)) come) = c.count_lacked-put.ensures ∙ ap (λ (rows : List Row). length (filter (λ r. not (has_row base r)) rows)) (c.as_slice.ensures.rows ∙ c.come-come.ensures.rows) in
    let taken : c.count_staying-taken.result ≡ length (filter (stays base come) gone) = c.count_staying-taken.ensures
    ∙ ap (λ (rows : List Row). length (filter (stays base rows) c.as_slice-2.result.now)) c.come-come.ensures.rows
    ∙ ap (λ (rows : List Row). length (filter (stays base come) rows)) (c.as_slice-2.ensures.rows ∙ c.gone-gone.ensures.rows) in
    let same : length base + length (filter (λ r. not (has_row base r)) come) ≡ length (overlaid base gone come) + length (filter (stays base come) gone) = overlaid_count base gone come c.width-width.ensures.is_set.rises c.width-width-2.ensures.is_layer.gone.rises c.width-width-2.ensures.is_layer.come.rises in
    omega (arith, c.self.invariant.2, put, taken, same)

pub returns : goal.returns
returns g c =
    let base = g.B.RowReads.rows c.self.inside.base in
    let gone = c.self.inside.layer.gone in
    let come = c.self.inside.layer.come in
    let put : c.count_lacked-put.result ≡ length (filter (λ r. not (has_row base r)) come) = c.count_lacked-put.ensures ∙ ap (λ (rows : List Row). length (filter (λ r. not (has_row base r)) rows)) (c.as_slice.ensures.rows ∙ c.come-come.ensures.rows) in
    let taken : c.count_staying-taken.result ≡ length (filter (stays base come) gone) = c.count_staying-taken.ensures
    ∙ ap (λ (rows : List Row). length (filter (stays base rows) c.as_slice-2.result.now)) c.come-come.ensures.rows
    ∙ ap (λ (rows : List Row). length (filter (stays base come) rows)) (c.as_slice-2.ensures.rows ∙ c.gone-gone.ensures.rows) in
    let same : length base + length (filter (λ r. not (has_row base r)) come) ≡ length (overlaid base gone come) + length (filter (stays base come) gone) = overlaid_count base gone come c.width-width.ensures.is_set.rises c.width-width-2.ensures.is_layer.gone.rises c.width-width-2.ensures.is_layer.come.rises in
    let seen : length (overlaid base gone come) ≡ length c.args.self.now.rows = ap (λ (v : Relation). length v.rows) c.self.view_is in
    omega (arith, c.self.invariant.2, put, taken, same, seen)
