use Rattle.std.proofs.Common.{subst}
use Rattle.lt_workers.specs.Driven.{EndsAt}
use Rattle.lt_workers.specs.Machines.{line_net_of}
use Rattle.lt_workers.proofs.Continuing.{continues_same, settled_on}
use Rattle.lt_workers.proofs.SeenFinals.{all_on, basis_on, gives_same}
use Rattle.lt_workers.proofs.line_driving.Shared+Line+W.hand_on_rest.Goals as goal

pub returns-in-NoMemory-clause-drives : goal.returns-in-NoMemory-clause-drives
returns-in-NoMemory-clause-drives g c =
    let v = c.args.seat.now.token.me.0 in
    (continues_same (line_net_of g.W.LeafWork.does) v c.requires.idle c.requires.free, subst (λ e. EndsAt (line_net_of g.W.LeafWork.does) v e) c.in-NoMemory.is c.requires.ends)

pub returns-in-NoMemory-clause-given : goal.returns-in-NoMemory-clause-given
returns-in-NoMemory-clause-given g c = gives_same g.W.LeafWork.does c.args.seat.now.token.me.0 (g.O.OnFinal.given c.args.on.now) c.args.count.now

pub returns-in-Spared-clause-drives : goal.returns-in-Spared-clause-drives
returns-in-Spared-clause-drives g c =
    let v = c.args.seat.now.token.me.0 in
    (continues_same (line_net_of g.W.LeafWork.does) v c.requires.idle c.requires.free, subst (λ e. EndsAt (line_net_of g.W.LeafWork.does) v e) c.in-Spared.is c.requires.ends)

pub returns-in-Spared-clause-given : goal.returns-in-Spared-clause-given
returns-in-Spared-clause-given g c = gives_same g.W.LeafWork.does c.args.seat.now.token.me.0 (g.O.OnFinal.given c.args.on.now) c.args.count.now

pub returns-in-Ok-clause-drives : goal.returns-in-Ok-clause-drives
returns-in-Ok-clause-drives g c =
    let v = c.args.seat.now.token.me.0 in
    let w = c.hand_on.new.seat.token.me.0 in
    let ends = subst (λ e. EndsAt (line_net_of g.W.LeafWork.does) v e) c.in-Settled.is c.requires.ends in
    (c.hand_on.ensures.continues, settled_on (line_net_of g.W.LeafWork.does) v w c.hand_on.ensures.continues (c.hand_on.ensures.known (ends.0, ends.1)) ends)

pub returns-in-Ok-clause-all : goal.returns-in-Ok-clause-all
returns-in-Ok-clause-all g c = λ is before h.
    let v = c.args.seat.now.token.me.0 in
    let w = c.hand_on.new.seat.token.me.0 in
    let ends = subst (λ e. EndsAt (line_net_of g.W.LeafWork.does) v e) c.in-Settled.is c.requires.ends in
    let now = settled_on (line_net_of g.W.LeafWork.does) v w c.hand_on.ensures.continues (c.hand_on.ensures.known (ends.0, ends.1)) ends in
    all_on g.W.LeafWork.does w before (g.O.OnFinal.given c.hand_on.new.on) c.hand_on.new.count c.args.end now (basis_on v w _ c.hand_on.ensures.continues.same.0 c.requires.end) c.in-Ok.ensures.ahead (c.hand_on.ensures.given before h)

pub returns-in-Err-clause-drives : goal.returns-in-Err-clause-drives
returns-in-Err-clause-drives g c = (c.hand_on.ensures.continues, c.in-Err.ensures.refused)
