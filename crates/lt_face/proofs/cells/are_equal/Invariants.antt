-- What the cells from `i` on answer, all answer.
use Rattle.std.proofs.Common.{◌≡◌, ◌≤◌, length, nat_eq}
use Rattle.std.specs.Cmp.Lexicographic.{pointwise}
use Rattle.std.proofs.cmp.SliceLoops.{Rest}
use Rattle.lt_face.proofs.cells.are_equal.Given as goal

abbrev pub invariant-loop-i : goal.invariant-loop-i
invariant-loop-i l = (l.i-end ≡ length l.a) × (l.i-end ≡ length l.b) × (l.i ≤ l.i-end) × Rest (pointwise nat_eq) l.a l.b l.i
