use Rattle.std.proofs.Common.{◌+◌, sym, subst, ap}
use Rattle.lt_turn.specs.declared.view.View.{View}
use Rattle.lt_workers.specs.Driven.{Drives}
use Rattle.lt_workers.specs.Machines.{line_net_of}
use Rattle.lt_workers.proofs.Continuing.{halves_join}
use Rattle.lt_workers.proofs.SeenFinals.{basis_on, gives_joined}
use Rattle.lt_workers.proofs.line_driving.Shared+Line+W.drive_all.Goals as goal

pub drive_both-one-requires-clause-base : goal.drive_both-one-requires-clause-base
drive_both-one-requires-clause-base g c = λ lifetimes outlive. basis_on c.args.seat.now.token.me.0 c.split.new.seat.token.me.0 _ (ap (λ (x : View _). x.opening) c.in-Ok.ensures.low) c.requires.base

pub returns-clause-drives : goal.returns-clause-drives
returns-clause-drives g c =
    let u = c.args.seat.now.token.me.0 in
    subst (Drives (line_net_of g.W.LeafWork.does) u c.join.new.seat.token.me.0) (sym c.either.ensures)
    (halves_join (line_net_of g.W.LeafWork.does) u c.split.new.seat.token.me.0 c.in-Ok.high.token.me.0 c.drive_both-one.new.low.token.me.0 c.drive_both-one.new.high.token.me.0 c.join.new.seat.token.me.0 (c.first-first.result + 1) c.drive_both-one.result.0 c.drive_both-one.result.1
    c.in-Ok.ensures.low c.in-Ok.ensures.high c.drive_both-one.ensures.low.1 c.drive_both-one.ensures.high.1 c.join.ensures.view c.join.ensures.low c.join.ensures.high)

pub returns-clause-given : goal.returns-clause-given
returns-clause-given g c =
    gives_joined g.W.LeafWork.does c.args.seat.now.token.me.0 c.split.new.seat.token.me.0 c.drive_both-one.new.low.token.me.0 c.drive_both-one.new.high.token.me.0 c.join.new.seat.token.me.0 (c.first-first.result + 1)
    (g.O.OnFinal.given c.args.on.now) (g.O.OnFinal.given c.drive_both-one.new.on) c.args.count.now c.drive_both-one.new.count c.in-Ok.ensures.low c.join.ensures.view c.join.ensures.low c.drive_both-one.ensures.given
