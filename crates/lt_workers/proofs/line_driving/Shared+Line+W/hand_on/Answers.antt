use Rattle.std.proofs.Common.{◌∙◌, refl, sym, subst, arith}
use Rattle.std.specs.Prelude.{IfSome}
use Rattle.lt_workers.specs.Given.{IsFinal}
use Rattle.lt_workers.specs.Machines.{line_net_of}
use Rattle.lt_workers.proofs.Continuing.{continues_same, continues_then}
use Rattle.lt_workers.proofs.SeenFinals.{gives_next, gives_refused, gives_same, gives_while}
use Rattle.lt_workers.proofs.line_driving.Shared+Line+W.hand_on.Goals as goal

pub loop-segment-init : goal.loop-segment-init
loop-segment-init g c =
    let v = c.args.seat.now.token.me.0 in
    (refl, continues_same (line_net_of g.W.LeafWork.does) v c.requires.idle c.requires.free, (λ k. k), refl, gives_same g.W.LeafWork.does v (g.O.OnFinal.given c.args.on.now) c.args.count.now, (λ m fits. fits))

pub find_final-requires-clause-free : goal.find_final-requires-clause-free
find_final-requires-clause-free g c = λ lifetimes outlive. c.loop-segment.invariant.1.free

pub on_final-requires : goal.on_final-requires
on_final-requires g c =
    let final = subst (λ o. IfSome o (λ m. IsFinal g.W.LeafWork.does g.W.LeafWork.fits c.find_final.new.seat.token.me.0 c.loop-segment.segment m)) c.in-Some.is c.in_ok-found.ensures.effect in
    let same = c.find_final.ensures.continues.same.0 ∙ c.loop-segment.invariant.1.same.0 in
    record { fits = c.loop-segment.invariant.5 _ (c.requires.base final.basis (sym same ∙ final.opening) _ final.fit) }

pub loop-segment-preserved : goal.loop-segment-preserved
loop-segment-preserved g c =
    let inv = c.loop-segment.invariant in
    let u = c.args.seat.now.token.me.0 in
    let v = c.loop-segment.seat.token.me.0 in
    let w = c.find_final.new.seat.token.me.0 in
    let start = g.O.OnFinal.given c.args.on.now in
    let had = g.O.OnFinal.given c.loop-segment.on in
    let has = g.O.OnFinal.given c.on_final.new.self in
    let final = subst (λ o. IfSome o (λ m. IsFinal g.W.LeafWork.does g.W.LeafWork.fits c.find_final.new.seat.token.me.0 c.loop-segment.segment m)) c.in-Some.is c.in_ok-found.ensures.effect in (
      c.find_final.ensures.turn ∙ sym c.requires.turn,
      continues_then (line_net_of g.W.LeafWork.does) u v w inv.1 c.find_final.ensures.continues,
      (λ k. c.find_final.ensures.known),
      refl,
      gives_next g.W.LeafWork.does g.W.LeafWork.fits u v w start had has _ c.args.count.now c.loop-segment.count c.loop-segment.segment inv.3 c.find_final.ensures.continues final c.in_ok-on_final.ensures.given inv.4,
      (λ m fits. c.on_final.ensures.base m (inv.5 m fits)),
    )

pub returns-in_err-found-clause-continues : goal.returns-in_err-found-clause-continues
returns-in_err-found-clause-continues g c = continues_then (line_net_of g.W.LeafWork.does) c.args.seat.now.token.me.0 c.loop-segment.seat.token.me.0 c.find_final.new.seat.token.me.0 c.loop-segment.invariant.1 c.find_final.ensures.continues

pub returns-in_err-found-clause-given : goal.returns-in_err-found-clause-given
returns-in_err-found-clause-given g c =
    gives_while g.W.LeafWork.does c.args.seat.now.token.me.0 c.loop-segment.seat.token.me.0 c.find_final.new.seat.token.me.0 (g.O.OnFinal.given c.args.on.now) (g.O.OnFinal.given c.loop-segment.on) c.args.count.now c.loop-segment.count c.find_final.ensures.continues c.loop-segment.invariant.4

pub returns-in_default-clause-given : goal.returns-in_default-clause-given
returns-in_default-clause-given g c =
    gives_while g.W.LeafWork.does c.args.seat.now.token.me.0 c.loop-segment.seat.token.me.0 c.find_final.new.seat.token.me.0 (g.O.OnFinal.given c.args.on.now) (g.O.OnFinal.given c.loop-segment.on) c.args.count.now c.loop-segment.count c.find_final.ensures.continues c.loop-segment.invariant.4

pub returns-in_err-on_final-clause-continues : goal.returns-in_err-on_final-clause-continues
returns-in_err-on_final-clause-continues g c = continues_then (line_net_of g.W.LeafWork.does) c.args.seat.now.token.me.0 c.loop-segment.seat.token.me.0 c.find_final.new.seat.token.me.0 c.loop-segment.invariant.1 c.find_final.ensures.continues

pub returns-in_err-on_final-clause-given : goal.returns-in_err-on_final-clause-given
returns-in_err-on_final-clause-given g c =
    gives_refused g.W.LeafWork.does c.args.seat.now.token.me.0 c.loop-segment.seat.token.me.0 c.find_final.new.seat.token.me.0 (g.O.OnFinal.given c.args.on.now) (g.O.OnFinal.given c.loop-segment.on) (g.O.OnFinal.given c.on_final.new.self) c.args.count.now c.loop-segment.count
    c.find_final.ensures.continues c.in_err-on_final.ensures.refused c.loop-segment.invariant.4

pub returns-in_err-on_final-clause-base : goal.returns-in_err-on_final-clause-base
returns-in_err-on_final-clause-base g c = λ m fits. c.on_final.ensures.base m (c.loop-segment.invariant.5 m fits)

pub returns-clause-ahead : goal.returns-clause-ahead
returns-clause-ahead g c = λ less. let here = c.loop-segment.invariant.3 in absurd (omega (arith, here, less, c.loop-segment-test.false))
