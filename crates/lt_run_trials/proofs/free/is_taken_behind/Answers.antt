use Rattle.std.proofs.Common.{sym, subst}
use Rattle.lt_batch.specs.Work.{FitsBatch}
use Rattle.lt_run_trials.proofs.free.is_taken_behind.Goals as goal

pub is_taken-is_so-requires-clause-effect : goal.is_taken-is_so-requires-clause-effect
is_taken-is_so-requires-clause-effect c =
    subst (FitsBatch c.args.work.now) (sym (c.effect.ensures 0 c.args.none.now c.requires.first)) (c.requires.leaves.0.fit c.args.none.now c.requires.none)

pub is_taken-is_so-requires-clause-second : goal.is_taken-is_so-requires-clause-second
is_taken-is_so-requires-clause-second c = (c.args.none.now, c.requires.none, c.in_ok-second.ensures.stands)
