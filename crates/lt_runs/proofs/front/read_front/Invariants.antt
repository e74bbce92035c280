use Rattle.std.proofs.Common.{◌≡◌, ◌≤◌, ◌-◌, ◌+◌, ℕ, List, length}
use Rattle.std.specs.Io.KnownBytes.{Consumes}
use Rattle.lt_blocks.specs.declared.reader.Stage.TheVariants.{Reading}
use Rattle.lt_blocks.specs.Reading.{HasRead}
use Rattle.lt_runs.specs.Input.{limit}
use Rattle.lt_runs.proofs.front.read_front.Given as goal

-- what was taken was read, and nothing was fed
abbrev pub invariant-reads : goal.invariant-reads
invariant-reads g l = record {
  piece : List ℕ;
  consumed : Consumes (g.S.Source.left l.fn.source) (g.S.Source.left l.source) piece;
  counted : l.count ≡ length piece;
  within : l.count ≤ limit;
  stage : l.reader.stage ≡ Reading;
  read : HasRead l.reader piece;
  number : l.reader.number ≤ l.count + 1;
  feed : l.feed ≡ l.fn.feed;
  later : g.S.Source.faults l.fn.source ≤ g.S.Source.faults l.source;
}

abbrev pub decreases-reads : goal.decreases-reads
decreases-reads g l = limit - l.count
