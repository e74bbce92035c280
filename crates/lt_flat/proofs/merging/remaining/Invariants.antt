use Rattle.std.proofs.Common.{◌≡◌, ◌+◌, ◌-◌, ◌≤◌, ◌++◌, length, drop}
use Rattle.lt_flat.specs.Flat.{kept}
use Rattle.lt_flat.proofs.merging.remaining.Given as goal

abbrev pub invariant-both : goal.invariant-both
invariant-both l = record {
  done : l.left.items ++ kept (drop l.i l.rows) (drop l.j l.less) ≡ kept l.rows l.less;
  in_rows : l.i ≤ length l.rows;
  in_less : l.j ≤ length l.less;
}

abbrev pub decreases-both : goal.decreases-both
decreases-both l = (length l.rows - l.i) + (length l.less - l.j)
