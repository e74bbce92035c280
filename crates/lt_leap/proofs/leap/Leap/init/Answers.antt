use Rattle.std.proofs.Common.{map, length, sym, arith}
use Rattle.std.proofs.lemmas.List.{length-map}
use Rattle.lt_leap.proofs.Advanced.{found}
use Rattle.lt_leap.proofs.Leading.{on_err-given_up, given_up-none}
use Rattle.lt_leap.proofs.Standing.{first_at}
use Rattle.lt_leap.proofs.Made.{starts}
use Rattle.lt_leap.proofs.Paid.{paid-first}
use Rattle.lt_leap.proofs.leap.Leap.init.Goals as goal

pub invariant_of-result : goal.invariant_of-result
invariant_of-result g c = λ key.
    let e = c.in_ok-key.ensures in
    found _ _ _ _ e.ring (λ i lt. e.found key i (let l = length-map c.search.new.iters.items g.I.KeyIter.here in omega arith)) key

pub returns-clause-here : goal.returns-clause-here
returns-clause-here g c =
    let l = length-map c.args.iters.items g.I.KeyIter.here in
    let s = starts _ _ _ c.in_ok-ring.ensures (λ i lt. first_at _ _ c.args.iters.items c.requires.first i (omega arith)) in
    c.in_ok-key.ensures.exact 0 s.none (omega arith)

pub returns-clause-notes : goal.returns-clause-notes
returns-clause-notes g c =
    let l = length-map c.args.iters.items g.I.KeyIter.here in
    let s = starts _ _ _ c.in_ok-ring.ensures (λ i lt. first_at _ _ c.args.iters.items c.requires.first i (omega arith)) in
    (_, s.greatest, c.in_ok-key.ensures.notes)

pub returns-in_err-key-clause-cost : goal.returns-in_err-key-clause-cost
returns-in_err-key-clause-cost g c =
    let l = length-map c.args.iters.items g.I.KeyIter.here in
    let paid = paid-first _ _ _ _ _ _ _ _ (length c.args.iters.items) c.in_ok-ring.ensures (λ i lt. first_at _ _ c.args.iters.items c.requires.first i (omega arith)) c.search.ensures.keys (sym l) (λ i lt. c.search.ensures.left i (omega arith)) in
    omega arith

pub returns-clause-cost : goal.returns-clause-cost
returns-clause-cost g c =
    let l = length-map c.args.iters.items g.I.KeyIter.here in
    let paid = paid-first _ _ _ _ _ _ _ _ (length c.args.iters.items) c.in_ok-ring.ensures (λ i lt. first_at _ _ c.args.iters.items c.requires.first i (omega arith)) c.search.ensures.keys (sym l) (λ i lt. c.search.ensures.left i (omega arith)) in
    omega arith

pub returns-clause-potential : goal.returns-clause-potential
returns-clause-potential g c =
    let l = length-map c.args.iters.items g.I.KeyIter.here in
    let paid = paid-first _ _ _ _ _ _ _ _ (length c.args.iters.items) c.in_ok-ring.ensures (λ i lt. first_at _ _ c.args.iters.items c.requires.first i (omega arith)) c.search.ensures.keys (sym l) (λ i lt. c.search.ensures.left i (omega arith)) in
    paid

pub returns-in_err-ring-clause-given_up : goal.returns-in_err-ring-clause-given_up
returns-in_err-ring-clause-given_up g c = on_err-given_up _ _ _ _ _ _ _ _ (given_up-none (map g.I.KeyIter.keys c.args.iters.items) (map g.I.KeyIter.here c.args.iters.items) (g.N.Notes.kept c.args.notes.now) c.args.moves.now)

pub returns-in_err-key-clause-given_up : goal.returns-in_err-key-clause-given_up
returns-in_err-key-clause-given_up g c = on_err-given_up _ _ _ _ _ _ _ _ c.in_err-key.ensures.given_up
