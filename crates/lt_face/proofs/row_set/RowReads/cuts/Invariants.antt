use Rattle.std.proofs.Common.{◌≡◌, ◌≤◌, ◌-◌, ◌+◌, true, length}
use Rattle.std.specs.List.{AllByRecursion}
use Rattle.lt_face.specs.Rows.{IsAscending, has_row}
use Rattle.lt_face.proofs.row_set.RowReads.cuts.Given as goal

abbrev pub invariant-loop-part : goal.invariant-loop-part
invariant-loop-part g l = record {
  few : length l.cuts + (l.parts - l.part) ≤ l.parts - 1;
  rises : IsAscending l.cuts;
  each : AllByRecursion (λ row. has_row (g.Self.RowReads.rows l.self) row ≡ true) l.cuts;
}
