use Rattle.std.proofs.Common.{◌≡◌, take, length}
use Rattle.lt_face.proofs.row.Row.from_cells.Given as goal

abbrev pub invariant-loop-i : goal.invariant-loop-i
invariant-loop-i l =
    record {
      long : length l.all ≡ 8;
      same : take l.i l.all ≡ take l.i l.cells;
    }
