use Rattle.lt_workers.specs.Machines.{line_net_of}
use Rattle.lt_workers.proofs.Continuing.{continues_then}
use Rattle.lt_workers.proofs.SeenFinals.{gives_while}
use Rattle.lt_workers.proofs.line_driving.Shared+Line+W.step_line.Goals as goal

pub go_on-requires-clause-free : goal.go_on-requires-clause-free
go_on-requires-clause-free g c = λ lifetimes outlive. c.hand_on.ensures.continues.free

pub returns-in-Ok-clause-goes : goal.returns-in-Ok-clause-goes
returns-in-Ok-clause-goes g c = (
  continues_then (line_net_of g.W.LeafWork.does) c.args.seat.now.token.me.0 c.hand_on.new.seat.token.me.0 c.go_on.new.seat.token.me.0 c.hand_on.ensures.continues c.go_on.ensures.goes.0,
  c.go_on.ensures.goes.1,
)

pub returns-in-Ok-clause-given : goal.returns-in-Ok-clause-given
returns-in-Ok-clause-given g c =
    gives_while g.W.LeafWork.does c.args.seat.now.token.me.0 c.hand_on.new.seat.token.me.0 c.go_on.new.seat.token.me.0 (g.O.OnFinal.given c.args.on.now) (g.O.OnFinal.given c.hand_on.new.on) c.args.count.now c.hand_on.new.count c.go_on.ensures.goes.0 c.hand_on.ensures.given

pub returns-in-Err-clause-goes : goal.returns-in-Err-clause-goes
returns-in-Err-clause-goes g c = (c.hand_on.ensures.continues, c.in-Err.ensures.refused)
