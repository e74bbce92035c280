use Rattle.std.proofs.Common.{◌≡◌}
use Rattle.lt_run_trials.proofs.backwards.run_backwards.Given as goal

abbrev pub invariant-loop-place : goal.invariant-loop-place
invariant-loop-place l = l.floor.board.leaves ≡ l.fn.floor.board.leaves
