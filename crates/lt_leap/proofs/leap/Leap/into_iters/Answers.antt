use Rattle.lt_leap.proofs.Standing.{each_stands}
use Rattle.lt_leap.proofs.leap.Leap.into_iters.Goals as goal

pub returns-clause-found : goal.returns-clause-found
returns-clause-found g c = λ key.
    let goes = rw (← c.self.view_is) at key in
    let found = c.self.invariant goes in
    rw (← c.self.view_is) (each_stands g.I.KeyIter.here _ c.self.inside.iters.items found.together)
