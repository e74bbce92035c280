use Rattle.std.proofs.Common.{rules, refl}
use Rattle.lt_workers.specs.Machines.{line_basis_of, line_net_of, line_stand}
use Rattle.lt_workers.proofs.Continuing.{continues_look}
use Rattle.lt_workers.proofs.SeenFinals.{basis_is}
use Rattle.lt_workers.proofs.Visiting.{may_give, still_move, still_over}
use Rattle.lt_workers.proofs.line_driving.Shared+Line+W.count_segments.Goals as goal

pub give_back-requires-clause-journal : goal.give_back-requires-clause-journal
give_back-requires-clause-journal g c =
    let v = c.args.seat.now.token.me.0 in
    let h = c.receive-handed.new.seat.token.me.0 in
    let s = line_stand c.receive-handed.result.machine in
    may_give (line_net_of g.W.LeafWork.does) v h s s v.first refl (still_move (line_net_of g.W.LeafWork.does) v.first s c.receive-handed.ensures.replayed) h c.receive-handed.ensures.view

pub give_back-requires-clause-opening : goal.give_back-requires-clause-opening
give_back-requires-clause-opening g c =
    let v = c.args.seat.now.token.me.0 in
    let h = c.receive-handed.new.seat.token.me.0 in
    let s = line_stand c.receive-handed.result.machine in
    still_over (line_net_of g.W.LeafWork.does) v h s s v.first refl (still_move (line_net_of g.W.LeafWork.does) v.first s c.receive-handed.ensures.replayed) h c.receive-handed.ensures.view c.receive-handed.ensures.opening

pub returns-clause-continues : goal.returns-clause-continues
returns-clause-continues g c =
    continues_look (line_net_of g.W.LeafWork.does) c.args.seat.now.token.me.0 c.give_back.new.seat.token.me.0 (line_stand c.receive-handed.result.machine) (search rules) c.requires.free
    c.receive-handed.ensures.extends c.give_back.ensures.seen c.receive-handed.ensures.claims c.give_back.ensures.claims

pub returns-clause-count : goal.returns-clause-count
returns-clause-count g c = basis_is c.args.seat.now.token.me.0 (line_basis_of c.receive-handed.result.machine) _ c.receive-handed.ensures.opening c.segment_count-count.ensures.value

pub returns-clause-small : goal.returns-clause-small
returns-clause-small g c = basis_is c.args.seat.now.token.me.0 (line_basis_of c.receive-handed.result.machine) _ c.receive-handed.ensures.opening c.segment_count-count.ensures.sizes
