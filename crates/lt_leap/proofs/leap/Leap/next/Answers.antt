use Rattle.std.proofs.Common.{◌≡◌, ◌+◌, map, length, sym, ap, ◌∙◌, arith}
use Rattle.lt_face.proofs.KeyLemmas.{least_above}
use Rattle.lt_leap.specs.Common.{common_keys}
use Rattle.lt_leap.proofs.Changed.{changed-all}
use Rattle.std.proofs.lemmas.List.{length-map}
use Rattle.lt_leap.proofs.Leading.{on_err}
use Rattle.lt_leap.proofs.Advanced.{found}
use Rattle.lt_leap.proofs.Paid.{paid-more}
use Rattle.lt_leap.proofs.leap.Leap.next.Goals as goal

pub invariant_of-self-2 : goal.invariant_of-self-2
invariant_of-self-2 g c = λ key.
    let e = c.in_ok-self-inside.ensures in
    found _ _ _ _ e.ring (λ i lt. e.found key i (let l = length-map c.advance.new.iters.items g.I.KeyIter.here in omega arith)) key

pub returns-clause-at_least : goal.returns-clause-at_least
returns-clause-at_least g c = λ goes.
    let H = g.I.KeyIter.here in
    let K = g.I.KeyIter.keys in
    let e = c.in_ok-self-inside.ensures in
    let goes_on = rw (← c.self.view_is) at c.requires in
    let found = c.self.invariant goes_on in
    let old = map H c.self.inside.iters.items in
    let new = map H c.advance.new.iters.items in
    let n : length old ≡ length c.self.inside.iters.items = length-map c.self.inside.iters.items H in
    let m : length new ≡ length old = length-map c.advance.new.iters.items H ∙ sym (length-map c.advance.new.iters.items K) ∙ ap length e.keys ∙ length-map c.self.inside.iters.items K ∙ sym n in
    let up = least_above (common_keys (map K c.self.inside.iters.items)) (c.self.inside.key + 1) (let low = found.low in omega arith) in
    let all = changed-all old new m (λ i lt.
    let a = found.together i lt in
    let b = e.found goes i (let l = length-map c.advance.new.iters.items H in omega arith) in
    let x = e.exact in
    λ same. omega arith) in
    let few = e.moved in
    rw (← c.self.view_is) (omega arith)

pub returns-in_err-self-inside-clause-potential : goal.returns-in_err-self-inside-clause-potential
returns-in_err-self-inside-clause-potential g c =
    let goes = rw (← c.self.view_is) at c.requires in
    let found = c.self.invariant goes in
    rw (← c.self.view_is)
    (paid-more _ _ _ _ _ _ _ (c.self.inside.key + 1) _ _ found (omega arith) c.advance.ensures.keys (λ rose i lt. c.advance.ensures.left rose i (let l = length-map c.self.inside.iters.items g.I.KeyIter.here in omega arith)))

pub returns-clause-potential : goal.returns-clause-potential
returns-clause-potential g c =
    let goes = rw (← c.self.view_is) at c.requires in
    let found = c.self.invariant goes in
    rw (← c.self.view_is)
    (paid-more _ _ _ _ _ _ _ (c.self.inside.key + 1) _ _ found (omega arith) c.advance.ensures.keys (λ rose i lt. c.advance.ensures.left rose i (let l = length-map c.self.inside.iters.items g.I.KeyIter.here in omega arith)))

pub advance-requires-clause-ring : goal.advance-requires-clause-ring
advance-requires-clause-ring g c =
    let found = c.self.invariant (rw (← c.self.view_is) at c.requires) in
    found.is_ring

pub advance-requires-clause-goes_on : goal.advance-requires-clause-goes_on
advance-requires-clause-goes_on g c = λ at_end.
    let found = c.self.invariant (rw (← c.self.view_is) at c.requires) in
    (rw (← c.self.view_is) at c.requires) (sym (found.together _ (found.is_ring.in_range 0 found.is_ring.some)) ∙ at_end)

pub advance-requires-clause-ahead : goal.advance-requires-clause-ahead
advance-requires-clause-ahead g c = λ j lt.
    let found = c.self.invariant (rw (← c.self.view_is) at c.requires) in
    omega (arith, found.together j (omega (arith, lt, length-map c.self.inside.iters.items g.I.KeyIter.here)))

pub advance-requires-clause-bound : goal.advance-requires-clause-bound
advance-requires-clause-bound g c =
    let found = c.self.invariant (rw (← c.self.view_is) at c.requires) in
    omega (arith, found.low)

pub returns-in_err-self-inside-clause-keys : goal.returns-in_err-self-inside-clause-keys
returns-in_err-self-inside-clause-keys g c = rw (← c.self.view_is) c.advance.ensures.keys

pub returns-in_err-self-inside-clause-still : goal.returns-in_err-self-inside-clause-still
returns-in_err-self-inside-clause-still g c = rw (← c.self.view_is) c.advance.ensures.still

pub returns-in_err-self-inside-clause-given_up : goal.returns-in_err-self-inside-clause-given_up
returns-in_err-self-inside-clause-given_up g c = rw (← c.self.view_is) (on_err _ c.in_err-self-inside.ensures.given_up)

pub returns-clause-keys : goal.returns-clause-keys
returns-clause-keys g c = rw (← c.self.view_is) c.advance.ensures.keys

pub returns-clause-still : goal.returns-clause-still
returns-clause-still g c = rw (← c.self.view_is) c.advance.ensures.still

pub returns-clause-here : goal.returns-clause-here
returns-clause-here g c = rw (← c.self.view_is) c.in_ok-self-inside.ensures.exact

pub returns-clause-notes : goal.returns-clause-notes
returns-clause-notes g c = rw (← c.self.view_is) c.in_ok-self-inside.ensures.notes

pub returns-clause-made : goal.returns-clause-made
returns-clause-made g c = rw (← c.self.view_is) c.in_ok-self-inside.ensures.made
