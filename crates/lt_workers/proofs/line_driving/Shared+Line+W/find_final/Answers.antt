use Rattle.std.proofs.Common.{rules, ◌+◌, ◌<◌, length, refl}
use Rattle.lt_net.specs.Line.{IsPast}
use Rattle.lt_circuit.specs.Line.{line_state}
use Rattle.lt_circuit.specs.Row.{sizes}
use Rattle.lt_workers.specs.Given.{IsAhead, IsFinal, IsPassed}
use Rattle.lt_workers.specs.Machines.{line_net_of, line_stand}
use Rattle.lt_workers.proofs.Continuing.{continues_look}
use Rattle.lt_workers.proofs.SeenFinals.{ahead_of, final_of, on_found, on_missing}
use Rattle.lt_workers.proofs.Visiting.{may_give, still_move, still_over}
use Rattle.lt_workers.proofs.line_driving.Shared+Line+W.find_final.Goals as goal

pub give_back-requires-clause-journal : goal.give_back-requires-clause-journal
give_back-requires-clause-journal g c =
    let v = c.args.seat.now.token.me.0 in
    let h = c.receive-handed.new.seat.token.me.0 in
    let s = line_stand c.receive-handed.result.machine in
    may_give (line_net_of g.W.LeafWork.does) v h s s v.first refl (still_move (line_net_of g.W.LeafWork.does) v.first s c.receive-handed.ensures.replayed) h c.receive-handed.ensures.view

pub give_back-requires-clause-opening : goal.give_back-requires-clause-opening
give_back-requires-clause-opening g c =
    let v = c.args.seat.now.token.me.0 in
    let h = c.receive-handed.new.seat.token.me.0 in
    let s = line_stand c.receive-handed.result.machine in
    still_over (line_net_of g.W.LeafWork.does) v h s s v.first refl (still_move (line_net_of g.W.LeafWork.does) v.first s c.receive-handed.ensures.replayed) h c.receive-handed.ensures.view c.receive-handed.ensures.opening

pub returns-clause-continues : goal.returns-clause-continues
returns-clause-continues g c =
    continues_look (line_net_of g.W.LeafWork.does) c.args.seat.now.token.me.0 c.give_back.new.seat.token.me.0 (line_stand c.receive-handed.result.machine) (search rules) c.requires.free
    c.receive-handed.ensures.extends c.give_back.ensures.seen c.receive-handed.ensures.claims c.give_back.ensures.claims

pub returns-clause-known : goal.returns-clause-known
returns-clause-known g c = (line_state c.receive-handed.result.machine, c.give_back.ensures.known)

pub returns-clause-effect : goal.returns-clause-effect
returns-clause-effect g c =
    let l = c.receive-handed.result.machine in
    let w = c.give_back.new.seat.token.me.0 in
    on_found (λ m. IsPassed (sizes l.row) (line_state l) c.args.segment m) (λ m. g.W.LeafWork.fits l.work m) (λ m. IsFinal g.W.LeafWork.does g.W.LeafWork.fits w c.args.segment m)
    (λ m passed fit. final_of g.W.LeafWork.does g.W.LeafWork.fits w l (search rules) c.give_back.ensures.seen c.receive-handed.ensures.replayed c.segment_count-segments.ensures.sizes c.args.segment m passed fit)
    c.share_passed-found.result c.share_passed-found.ensures.passed c.share_passed-found.ensures.fits

pub returns-clause-ahead : goal.returns-clause-ahead
returns-clause-ahead g c =
    let l = c.receive-handed.result.machine in
    let w = c.give_back.new.seat.token.me.0 in
    on_missing (c.args.segment < length (sizes l.row) → IsPast (c.args.segment + 1) (line_state l) → ⊥) (IsAhead g.W.LeafWork.does w c.args.segment)
    (ahead_of g.W.LeafWork.does w l (search rules) c.give_back.ensures.known c.args.segment) c.share_passed-found.result c.share_passed-found.ensures.ahead
