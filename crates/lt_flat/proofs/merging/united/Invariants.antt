use Rattle.std.proofs.Common.{◌≡◌, ◌+◌, ◌-◌, ◌≤◌, ◌++◌, length, drop, fold}
use Rattle.lt_face.specs.Rows.{with_row}
use Rattle.lt_flat.proofs.merging.united.Given as goal

abbrev pub invariant-both : goal.invariant-both
invariant-both l = record {
  done : l.all.items ++ fold with_row (drop l.i l.rows) (drop l.j l.more) ≡ fold with_row l.rows l.more;
  in_rows : l.i ≤ length l.rows;
  in_more : l.j ≤ length l.more;
}

abbrev pub decreases-both : goal.decreases-both
decreases-both l = (length l.rows - l.i) + (length l.more - l.j)
