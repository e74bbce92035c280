use Rattle.std.proofs.Common.{rules, ◌≡◌, sym, subst}
use Rattle.lt_face.specs.Keys.{IsKeyList}
use Rattle.lt_trials.proofs.Finding.{placed}
use Rattle.lt_trials.proofs.leap.list_iter.ListIter.new.Goals as goal

pub invariant_of-result : goal.invariant_of-result
invariant_of-result c =
    let same : c.deref.result.now ≡ c.in_ok-keys.keys.items = search rules in
    placed _ _ 0 _ (subst IsKeyList (sym c.in_ok-keys.ensures.items) c.requires) same c.least-here.ensures
