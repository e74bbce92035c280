use Rattle.std.proofs.Common.{◌≡◌, ℕ, List, map, ap, ◌∙◌}
use Rattle.lt_face.specs.State.{Row, Relation}
use Rattle.lt_delta.specs.Laying.{rows_laid}
use Rattle.lt_base.specs.Indexed.{permuted_mark}
use Rattle.lt_base.proofs.SameIndex.{exact}
use Rattle.lt_base.proofs.index.Index.laid.Goals as goal

pub rows_with-requires-clause-perm : goal.rows_with-requires-clause-perm
rows_with-requires-clause-perm c = c.requires.indexed.2.perm

pub returns : goal.returns
returns c =
    let columns = c.args.self.now.columns in
    let width = c.args.self.now.rows.width in
    let rows : c.in_ok-rows.rows.rows ≡ rows_laid c.args.relation c.args.self.now.rows.rows (map (permuted_mark columns) c.args.marks.now) =
    exact width c.args.relation columns c.args.marks.now c.requires.indexed.0 c.args.self.now.rows.rows c.in_ok-rows.rows.rows c.requires.indexed.1 c.requires.indexed.2 c.requires.fit c.width-width.ensures.is_set.rises c.width-width-2.ensures.is_set.rises
    (c.in_ok-rows.ensures.rows c.requires.indexed.0 c.requires.indexed.1 c.requires.indexed.2) in
    ap (λ (cs : List ℕ). record { columns = cs; rows = c.in_ok-rows.rows; idle = c.args.self.now.idle }) c.copy-columns.ensures
    ∙ ap (λ (r : Relation). record { columns = columns; rows = r; idle = c.args.self.now.idle }) (ap (λ (n : ℕ). record { width = n; rows = c.in_ok-rows.rows.rows }) c.in_ok-rows.ensures.width ∙ ap (λ (rs : List Row). record { width = width; rows = rs }) rows)
