use Rattle.std.proofs.Common.{◌≡◌, map, take}
use Rattle.lt_restate.specs.Walked.{mark_of}
use Rattle.lt_restate.proofs.changed.named_rows.Given as goal

abbrev pub invariant-loop-change : goal.invariant-loop-change
invariant-loop-change l = l.list ≡ map mark_of (take l.change-index l.change-items)
