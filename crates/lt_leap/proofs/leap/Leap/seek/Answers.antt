use Rattle.std.proofs.Common.{◌≤◌, sym, ◌∙◌, arith}
use Rattle.std.proofs.lemmas.List.{length-map}
use Rattle.lt_leap.proofs.Leading.{on_err}
use Rattle.lt_leap.proofs.Advanced.{found}
use Rattle.lt_leap.proofs.Paid.{paid-more}
use Rattle.lt_leap.proofs.leap.Leap.seek.Goals as goal

pub invariant_of-self-2 : goal.invariant_of-self-2
invariant_of-self-2 g c = λ key.
    let e = c.in_ok-self-inside.ensures in
    found _ _ _ _ e.ring (λ i lt. e.found key i (let l = length-map c.advance.new.iters.items g.I.KeyIter.here in omega arith)) key

pub returns-in_err-self-inside-clause-potential : goal.returns-in_err-self-inside-clause-potential
returns-in_err-self-inside-clause-potential g c =
    let goes = rw (← c.self.view_is) at c.requires.not_ended in
    let found = c.self.invariant goes in
    rw (← c.self.view_is) (λ above.
    paid-more _ _ _ _ _ _ _ c.args.to _ _ found above c.advance.ensures.keys (λ rose i lt. c.advance.ensures.left rose i (let l = length-map c.self.inside.iters.items g.I.KeyIter.here in omega arith)))

pub returns-clause-potential : goal.returns-clause-potential
returns-clause-potential g c =
    let goes = rw (← c.self.view_is) at c.requires.not_ended in
    let found = c.self.invariant goes in
    rw (← c.self.view_is) (λ above.
    paid-more _ _ _ _ _ _ _ c.args.to _ _ found above c.advance.ensures.keys (λ rose i lt. c.advance.ensures.left rose i (let l = length-map c.self.inside.iters.items g.I.KeyIter.here in omega arith)))

pub advance-requires-clause-goes_on : goal.advance-requires-clause-goes_on
advance-requires-clause-goes_on g c = λ at_end.
    let found = c.self.invariant (rw (← c.self.view_is) at c.requires.not_ended) in
    (rw (← c.self.view_is) at c.requires.not_ended) (sym (found.together _ (found.is_ring.in_range 0 found.is_ring.some)) ∙ at_end)

pub advance-requires-clause-ahead : goal.advance-requires-clause-ahead
advance-requires-clause-ahead g c = λ j lt.
    let found = c.self.invariant (rw (← c.self.view_is) at c.requires.not_ended) in
    let up : c.self.inside.key ≤ c.args.to = rw (← c.self.view_is) at c.requires.ahead in
    omega (arith, up, found.together j (omega (arith, lt, length-map c.self.inside.iters.items g.I.KeyIter.here)))

pub returns-in_err-self-inside-clause-keys : goal.returns-in_err-self-inside-clause-keys
returns-in_err-self-inside-clause-keys g c = rw (← c.self.view_is) c.advance.ensures.keys

pub returns-in_err-self-inside-clause-still : goal.returns-in_err-self-inside-clause-still
returns-in_err-self-inside-clause-still g c = rw (← c.self.view_is) c.advance.ensures.still

pub returns-in_err-self-inside-clause-given_up : goal.returns-in_err-self-inside-clause-given_up
returns-in_err-self-inside-clause-given_up g c = rw (← c.self.view_is) (on_err _ c.in_err-self-inside.ensures.given_up)

pub returns-clause-keys : goal.returns-clause-keys
returns-clause-keys g c = rw (← c.self.view_is) c.advance.ensures.keys

pub returns-clause-still : goal.returns-clause-still
returns-clause-still g c = rw (← c.self.view_is) c.advance.ensures.still

pub returns-clause-here : goal.returns-clause-here
returns-clause-here g c = rw (← c.self.view_is) c.in_ok-self-inside.ensures.exact

pub returns-clause-notes : goal.returns-clause-notes
returns-clause-notes g c = rw (← c.self.view_is) c.in_ok-self-inside.ensures.notes

pub returns-clause-made : goal.returns-clause-made
returns-clause-made g c = rw (← c.self.view_is) c.in_ok-self-inside.ensures.made
