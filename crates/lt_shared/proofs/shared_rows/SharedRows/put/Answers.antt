use Rattle.std.proofs.Common.{◌≡◌, suc, false, length, sym, ◌∙◌, subst, arith}
use Rattle.std.specs.Arc.{arc_value}
use Rattle.lt_face.specs.Rows.{IsRow, IsRowSet, has_row, with_row}
use Rattle.lt_face.proofs.RowLemmas.{IsRowSet-with_row}
use Rattle.lt_shared.specs.Shared.{SharedView, root_rows}
use Rattle.lt_shared.proofs.Joins.{not_true}
use Rattle.lt_shared.proofs.Counts.{with-count}
use Rattle.lt_shared.proofs.shared_rows.SharedRows.put.Goals as goal

pub invariant_of-self-then-new : goal.invariant_of-self-then-new
invariant_of-self-then-new g c =
    let rows = root_rows (arc_value c.self.inside.nodes).items in
    let one = subst (λ (v : SharedView). IsRow v.width c.args.row) (sym c.self.view_is) c.requires in
    let absent : has_row rows c.args.row ≡ false = not_true (has_row rows c.args.row) (sym c.in_ok-new.ensures.new ∙ c.if-new.true) in
    let more : length (with_row rows c.args.row) ≡ suc (length rows) = with-count rows c.args.row absent in
    let is = c.in_ok-new.ensures.ok in
    let k = c.in-Some.ensures in (
      c.self.invariant.0,
      subst (IsRowSet c.self.inside.width) (sym is) (IsRowSet-with_row c.self.inside.width rows c.args.row c.self.invariant.1 one),
      (let n = c.self.invariant.2 in rw (is, more) (omega (arith, k.1, n))),
    )
