use Rattle.std.proofs.Common.{◌≤◌, ◌-◌, length, map, take}
use Rattle.std.specs.Arc.{arc_value}
use Rattle.lt_batch.specs.Folding.{HasGone}
use Rattle.lt_batch.proofs.fold.Fold.go_all.Given as goal

abbrev pub invariant-steps : goal.invariant-steps
invariant-steps g l = record {
  within : l.next ≤ length l.progs;
  gone : HasGone (map arc_value (take l.next l.progs)) l.fn.self l.self;
}

abbrev pub decreases-steps : goal.decreases-steps
decreases-steps g l = length l.progs - l.next
