use Rattle.std.proofs.Common.{◌≡◌, ◌≤◌, ◌-◌, ◌+◌, ◌++◌, ℕ, List, false, length}
use Rattle.std.specs.Io.KnownBytes.{Consumes}
use Rattle.lt_model.specs.declared.syntax.Item.{Item}
use Rattle.lt_script.specs.Feed.{HasFed}
use Rattle.lt_runs.specs.Input.{limit}
use Rattle.lt_runs.proofs.input.read_on.Given as goal

-- what was taken was fed
abbrev pub invariant-reads : goal.invariant-reads
invariant-reads g l = record {
  piece : List ℕ;
  consumed : Consumes (g.S.Source.left l.fn.source) (g.S.Source.left l.source) piece;
  counted : l.taken ≡ l.count + length piece;
  within : l.taken ≤ limit;
  fed : (bytes : List ℕ) (items : List Item) → HasFed l.fn.feed bytes items → HasFed l.feed (bytes ++ piece) items;
  open_still : l.feed.ended ≡ false;
  later : g.S.Source.faults l.fn.source ≤ g.S.Source.faults l.source;
}

abbrev pub decreases-reads : goal.decreases-reads
decreases-reads g l = limit - l.taken
