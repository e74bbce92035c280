use Rattle.std.proofs.Common.{◌≡◌, ◌-◌, length, slice_get, ap, ◌∙◌, arith}
use Rattle.lt_face.proofs.Walked.{from_start}
use Rattle.lt_face.proofs.walk.RowWalk.over.Goals as goal

pub invariant_of-result : goal.invariant_of-result
invariant_of-result g c =
    let rows = g.R.RowReads.rows c.args.rows.now in
    let none : 0 ≡ length rows - c.len.result = omega (arith, c.len.ensures) in
    (omega (arith, c.len.ensures), c.row_at_least-first.ensures ∙ rw c.from_cells.ensures (from_start rows) ∙ ap (λ n. slice_get rows n) none)
