use Rattle.std.proofs.Common.{◌-◌, ◌≤◌, length}
use Rattle.std.specs.Io.KnownBytes.{Consumes}
use Rattle.lt_picture.proofs.input.read_all.Given as goal

-- what was taken so far
abbrev pub invariant-reads : goal.invariant-reads
invariant-reads g l = record {
  taken : Consumes (g.S.Source.left l.fn.source) (g.S.Source.left l.source) l.bytes.items;
  within : length l.bytes.items ≤ 67108864;
}

abbrev pub decreases-reads : goal.decreases-reads
decreases-reads g l = 67108864 - length l.bytes.items
