use Rattle.std.proofs.Common.{rules, ◌≡◌}
use Rattle.lt_trials.proofs.Finding.{placed}
use Rattle.lt_trials.proofs.leap.list_iter.ListIter.go_to.Goals as goal

pub invariant_of-self : goal.invariant_of-self
invariant_of-self g c =
    let same : c.deref.result.now ≡ c.self.inside.keys.items = search rules in
    placed _ _ c.args.bound _ c.self.invariant.0 same c.least-self-inside.ensures
