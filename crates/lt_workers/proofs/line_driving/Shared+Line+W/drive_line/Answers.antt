use Rattle.std.proofs.Common.{◌∙◌, refl, sym}
use Rattle.lt_workers.specs.Machines.{line_net_of}
use Rattle.lt_workers.proofs.Continuing.{continues_same, continues_then}
use Rattle.lt_workers.proofs.SeenFinals.{gives_more, gives_same}
use Rattle.lt_workers.proofs.line_driving.Shared+Line+W.drive_line.Goals as goal

pub loop-init : goal.loop-init
loop-init g c =
    let v = c.args.seat.now.token.me.0 in
    (refl, continues_same (line_net_of g.W.LeafWork.does) v c.requires.idle c.requires.free, gives_same g.W.LeafWork.does v (g.O.OnFinal.given c.args.on.now) c.args.count.now, (λ m fits. fits))

pub step_line-requires-clause-free : goal.step_line-requires-clause-free
step_line-requires-clause-free g c = λ lifetimes outlive. c.loop.invariant.1.free

pub step_line-requires-clause-base : goal.step_line-requires-clause-base
step_line-requires-clause-base g c = λ lifetimes outlive. λ b opened m fits. c.loop.invariant.3 m (c.requires.base b (sym c.loop.invariant.1.same.0 ∙ opened) m fits)

pub loop-preserved : goal.loop-preserved
loop-preserved g c =
    let u = c.args.seat.now.token.me.0 in
    let v = c.loop.seat.token.me.0 in
    let w = c.step_line.new.seat.token.me.0 in (
      c.step_line.ensures.turn ∙ sym c.requires.turn,
      continues_then (line_net_of g.W.LeafWork.does) u v w c.loop.invariant.1 c.step_line.ensures.goes.0,
      gives_more g.W.LeafWork.does u v w (g.O.OnFinal.given c.args.on.now) (g.O.OnFinal.given c.loop.on) (g.O.OnFinal.given c.step_line.new.on) c.args.count.now c.loop.count c.step_line.new.count c.loop.invariant.2 c.step_line.ensures.given,
      (λ m fits. c.step_line.ensures.base m (c.loop.invariant.3 m fits)),
    )
