use Rattle.std.proofs.Common.{◌≡◌, List, ap, sym, ◌∙◌}
use Rattle.lt_face.specs.State.{Relation, Row}
use Rattle.lt_shared.specs.Shared.{SharedView, root_rows}
use Rattle.lt_over.specs.Edits.{edited, is_change}
use Rattle.lt_over.proofs.Overlays.{bare_rows}
use Rattle.lt_over.proofs.over.Over+SharedRows.edit.Goals as goal

pub returns-then-is_own-clause-rows : goal.returns-then-is_own-clause-rows
returns-then-is_own-clause-rows c =
    let gone = c.self.inside.layer.gone in
    let come = c.self.inside.layer.come in
    let no_gone = c.is_bare.ensures.gone c.if-is_bare.true in
    let no_come = c.is_bare.ensures.come c.if-is_bare.true in
    let old : root_rows c.is_own.new.self.nodes ≡ c.args.self.now.rows = ap (λ (b : SharedView). root_rows b.nodes) c.is_own.ensures ∙ sym (bare_rows (root_rows c.self.inside.base.nodes) gone come no_gone no_come) ∙ ap (λ (v : Relation). v.rows) c.self.view_is in
    bare_rows (root_rows c.edit_set.new.set.nodes) gone come no_gone no_come
    ∙ c.in_ok-changed.ensures.rows
    ∙ ap (λ (rows : List Row). edited rows c.args.row.now c.args.plus) old

pub returns-then-is_own-clause-changed : goal.returns-then-is_own-clause-changed
returns-then-is_own-clause-changed c =
    let bare = bare_rows (root_rows c.self.inside.base.nodes) c.self.inside.layer.gone c.self.inside.layer.come (c.is_bare.ensures.gone c.if-is_bare.true) (c.is_bare.ensures.come c.if-is_bare.true) in
    let old : root_rows c.is_own.new.self.nodes ≡ c.args.self.now.rows = ap (λ (b : SharedView). root_rows b.nodes) c.is_own.ensures ∙ sym bare ∙ ap (λ (v : Relation). v.rows) c.self.view_is in
    c.in_ok-changed.ensures.changed ∙ ap (λ (rows : List Row). is_change rows c.args.row.now c.args.plus) old
