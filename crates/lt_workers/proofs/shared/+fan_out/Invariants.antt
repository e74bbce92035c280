use Rattle.std.proofs.Common.{ℕ, ◌+◌, ◌-◌, ◌*◌}
use Rattle.lt_workers.proofs.shared.+fan_out.Given as goal

-- how many calls so many workers take at most, by halves: each has its own, one that halves, and that of a thread
abbrev calls_for : ℕ → ℕ
calls_for workers = 3 * workers

abbrev pub decreases-Shared::fan_out : goal.decreases-Shared::fan_out
decreases-Shared::fan_out g l = calls_for (l.seat.now.end - l.seat.now.first)

abbrev pub decreases-Shared::halves : goal.decreases-Shared::halves
decreases-Shared::halves g l = calls_for ((l.low.now.end - l.low.now.first) + (l.high.now.end - l.high.now.first)) - 1

abbrev pub decreases-Shared::halves-join_mut+arg2 : goal.decreases-Shared::halves-join_mut+arg2
decreases-Shared::halves-join_mut+arg2 g l = calls_for (l.low.now.end - l.low.now.first) + 1

abbrev pub decreases-Shared::halves-join_mut+arg3 : goal.decreases-Shared::halves-join_mut+arg3
decreases-Shared::halves-join_mut+arg3 g l = calls_for (l.high.now.end - l.high.now.first) + 1
