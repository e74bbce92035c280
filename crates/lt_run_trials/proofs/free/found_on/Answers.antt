use Rattle.std.proofs.Common.{◌<◌, ℕ, sym, subst, arith}
use Rattle.lt_batch.specs.Work.{FitsBatch}
use Rattle.lt_run_trials.proofs.free.found_on.Goals as goal

pub goes_free-found-requires-clause-leaves : goal.goes_free-found-requires-clause-leaves
goes_free-found-requires-clause-leaves g c =
    let below = subst (λ (n : ℕ). (0 < n) × (1 < n)) (sym c.requires.two) (omega arith, omega arith) in
    (c.in_ok-work.ensures.leaves 0 below.0, c.in_ok-work.ensures.leaves 1 below.1)

pub goes_free-found-requires-clause-none : goal.goes_free-found-requires-clause-none
goes_free-found-requires-clause-none g c = subst (FitsBatch c.in_ok-work.work) (sym c.requires.none) (tt, tt)
