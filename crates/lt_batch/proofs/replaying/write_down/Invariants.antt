use Rattle.std.proofs.Common.{◌≡◌, map, take}
use Rattle.lt_batch.specs.Replaying.{written_of}
use Rattle.lt_batch.proofs.replaying.write_down.Given as goal

abbrev pub invariant-loop-i : goal.invariant-loop-i
invariant-loop-i g l = l.entries ≡ map written_of (take l.i l.journal)
