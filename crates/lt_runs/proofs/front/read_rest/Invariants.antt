use Rattle.std.proofs.Common.{◌≡◌, ◌≤◌, ◌-◌, ◌+◌, ℕ, List, length}
use Rattle.std.specs.Io.KnownBytes.{Consumes}
use Rattle.lt_runs.specs.Input.{limit}
use Rattle.lt_runs.proofs.front.read_rest.Given as goal

-- what was taken
abbrev pub invariant-reads : goal.invariant-reads
invariant-reads g l = record {
  piece : List ℕ;
  consumed : Consumes (g.S.Source.left l.fn.source) (g.S.Source.left l.source) piece;
  counted : l.taken ≡ l.count + length piece;
  within : l.taken ≤ limit;
  later : g.S.Source.faults l.fn.source ≤ g.S.Source.faults l.source;
}

abbrev pub decreases-reads : goal.decreases-reads
decreases-reads g l = limit - l.taken
