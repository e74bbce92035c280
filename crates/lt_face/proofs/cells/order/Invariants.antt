-- What the cells from `i` on answer, all answer.
use Rattle.std.proofs.Common.{◌≡◌, ◌≤◌, length, min}
use Rattle.std.specs.Ordering.{nat_cmp}
use Rattle.std.specs.Cmp.Lexicographic.{slice_cmp}
use Rattle.std.proofs.cmp.SliceLoops.{Rest}
use Rattle.lt_face.proofs.cells.order.Given as goal

abbrev pub invariant-loop-i : goal.invariant-loop-i
invariant-loop-i l = (l.i-end ≡ min (length l.a) (length l.b)) × (l.i ≤ l.i-end) × Rest (slice_cmp nat_cmp) l.a l.b l.i
