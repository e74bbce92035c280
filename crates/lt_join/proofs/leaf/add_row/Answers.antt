use Rattle.std.proofs.Common.{◌≡◌, ◌∷◌, [], ◌++◌, ap, ◌∙◌}
use Rattle.lt_face.specs.State.{Row}
use Rattle.lt_model.specs.Answers.{cells_of}
use Rattle.lt_join.specs.Values.{assigned, values_in}
use Rattle.lt_join.specs.Way.{WayView}
use Rattle.lt_join.proofs.LastRow.{added_there, added_kept, added_each}
use Rattle.lt_join.proofs.leaf.add_row.Goals as goal

pub returns-clause-added : goal.returns-clause-added
returns-clause-added g c =
    let cells : Row = cells_of (assigned (values_in c.args.values.now.cells)) c.args.way.now.terms in
    let row : c.row.result ≡ cells = c.row.ensures ∙ ap (λ (w : WayView). cells_of (assigned (values_in c.args.values.now.cells)) w.terms) c.way.view_is in
    let is : c.push.new.self ≡ c.args.found.now.rows ++ cells ∷ [] = c.in_ok-push.ensures.ok ∙ ap (λ (r : Row). c.args.found.now.rows ++ r ∷ []) row in
    λ each. added_there c.args.found.now.rows c.push.new.self cells is

pub returns-clause-kept : goal.returns-clause-kept
returns-clause-kept g c =
    let cells : Row = cells_of (assigned (values_in c.args.values.now.cells)) c.args.way.now.terms in
    let row : c.row.result ≡ cells = c.row.ensures ∙ ap (λ (w : WayView). cells_of (assigned (values_in c.args.values.now.cells)) w.terms) c.way.view_is in
    let is : c.push.new.self ≡ c.args.found.now.rows ++ cells ∷ [] = c.in_ok-push.ensures.ok ∙ ap (λ (r : Row). c.args.found.now.rows ++ r ∷ []) row in
    added_kept c.args.found.now.rows c.push.new.self cells is

pub returns-clause-each : goal.returns-clause-each
returns-clause-each g c =
    let cells : Row = cells_of (assigned (values_in c.args.values.now.cells)) c.args.way.now.terms in
    let row : c.row.result ≡ cells = c.row.ensures ∙ ap (λ (w : WayView). cells_of (assigned (values_in c.args.values.now.cells)) w.terms) c.way.view_is in
    let is : c.push.new.self ≡ c.args.found.now.rows ++ cells ∷ [] = c.in_ok-push.ensures.ok ∙ ap (λ (r : Row). c.args.found.now.rows ++ r ∷ []) row in
    added_each c.args.found.now.rows c.push.new.self cells is
