use Rattle.std.proofs.Common.{◌≡◌, suc, true, length, sym, ◌∙◌, subst, arith}
use Rattle.std.specs.Arc.{arc_value}
use Rattle.lt_face.specs.Rows.{IsRowSet, has_row, without_row}
use Rattle.lt_face.proofs.RowLemmas.{IsRowSet-without_row}
use Rattle.lt_shared.specs.Shared.{root_rows}
use Rattle.lt_shared.proofs.Counts.{without-count}
use Rattle.lt_shared.proofs.shared_rows.SharedRows.take_out.Goals as goal

pub invariant_of-self-then-there : goal.invariant_of-self-then-there
invariant_of-self-then-there g c =
    let rows = root_rows (arc_value c.self.inside.nodes).items in
    let there : has_row rows c.args.row.now ≡ true = sym c.in_ok-there.ensures.there ∙ c.if-there.true in
    let less : suc (length (without_row rows c.args.row.now)) ≡ length rows = without-count rows c.args.row.now c.self.invariant.1.rises there in
    let is = c.in_ok-there.ensures.ok in
    let k = c.saturating_sub-self-inside.ensures in (
      c.self.invariant.0,
      subst (IsRowSet c.self.inside.width) (sym is) (IsRowSet-without_row c.self.inside.width rows c.args.row.now c.self.invariant.1),
      k ∙ (let n = c.self.invariant.2 in rw (is, n, sym less) (omega arith)),
    )
