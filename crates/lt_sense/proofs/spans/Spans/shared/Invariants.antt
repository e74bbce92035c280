use Rattle.std.proofs.Common.{◌≡◌, ◌≤◌, length, take}
use Rattle.lt_sense.proofs.spans.Spans.shared.Given as goal

abbrev pub invariant-loop-i : goal.invariant-loop-i
invariant-loop-i l = (take l.i l.self.at ≡ take l.i l.prefix) × (l.i ≤ length l.prefix)
