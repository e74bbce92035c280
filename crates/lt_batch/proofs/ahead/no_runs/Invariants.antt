use Rattle.std.proofs.Common.{◌≡◌, ℕ, None, get_or, length}
use Rattle.lt_batch.proofs.ahead.no_runs.Given as goal

abbrev pub invariant-loop-place : goal.invariant-loop-place
invariant-loop-place l = record {
  long : length l.all.items ≡ l._place;
  none : (p : ℕ) → get_or l.all.items p None ≡ None;
}
