use Rattle.std.proofs.Common.{◌≡◌, ◌≤◌, ◌-◌, length, take, drop}
use Rattle.std.specs.List.{AllByRecursion}
use Rattle.std.specs.declared.cmp.Ordering.TheVariants.{Less, Greater}
use Rattle.lt_face.specs.Rows.{row_cmp}
use Rattle.lt_shared.specs.Entries.{joined}
use Rattle.lt_shared.proofs.search.place.Given as goal

abbrev pub invariant-loop-low : goal.invariant-loop-low
invariant-loop-low g l =
    record {
      order : l.low ≤ l.high;
      within : l.high ≤ length l.entries;
      before : AllByRecursion (λ r. row_cmp r l.row ≡ Less) (joined g.T.Entry.rows (take (l.low - 1) l.entries));
      after : AllByRecursion (λ r. row_cmp r l.row ≡ Greater) (joined g.T.Entry.rows (drop l.high l.entries));
    }

abbrev pub decreases-loop-low : goal.decreases-loop-low
decreases-loop-low g l = l.high - l.low
