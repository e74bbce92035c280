use Rattle.std.proofs.Common.{◌≡◌}
use Rattle.lt_run_trials.proofs.floor.Floor.follow.Given as goal

abbrev pub invariant-loop-event : goal.invariant-loop-event
invariant-loop-event g l = l.self.board.leaves ≡ l.fn.self.board.leaves
