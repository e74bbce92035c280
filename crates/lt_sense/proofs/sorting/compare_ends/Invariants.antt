use Rattle.std.proofs.Common.{◌≡◌, ◌≤◌, ◌∷◌, ◌++◌, [], drop, length}
use Rattle.lt_face.specs.Rows.{row_cmp}
use Rattle.lt_sense.proofs.sorting.compare_ends.Given as goal

abbrev pub invariant-loop-i : goal.invariant-loop-i
invariant-loop-i l = record {
  same : row_cmp (l.one ++ l.a ∷ []) (l.other ++ l.b ∷ []) ≡ row_cmp (drop l.i l.one ++ l.a ∷ []) (drop l.i l.other ++ l.b ∷ []);
  within : l.i ≤ length l.other;
}
