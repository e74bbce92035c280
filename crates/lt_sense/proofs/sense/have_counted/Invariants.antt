use Rattle.std.proofs.Common.{◌≡◌, ◌<◌, ◌≤◌, ◌+◌, ◌*◌, ◌^◌, ℕ, length, take, drop}
use Rattle.std.specs.List.{AllByRecursion}
use Rattle.lt_sense.specs.declared.spans.Spans.{Spans}
use Rattle.lt_sense.specs.Gathered.{ranges_in}
use Rattle.lt_sense.specs.Held.{indexes, indexes_of}
use Rattle.lt_sense.specs.Spans.{have}
use Rattle.lt_sense.proofs.sense.have_counted.Given as goal

abbrev pub invariant-loop-at : goal.invariant-loop-at
invariant-loop-at n l = record {
  value : have (ranges_in l.lists.items) l.relation l.row ≡ have (ranges_in (drop l.at l.lists.items)) l.relation l.row;
  steps : (d : ℕ) → AllByRecursion (λ (s : Spans). length s.ranges.items < 2 ^ d) l.lists.items → l.steps ≤ l.fn.steps + indexes_of l.relation (indexes (take l.at l.lists.items)) * d;
}
