use Rattle.std.proofs.Common.{◌∙◌, sym}
use Rattle.lt_workers.specs.Machines.{line_net_of}
use Rattle.lt_workers.proofs.Continuing.{continues_then}
use Rattle.lt_workers.proofs.SeenFinals.{basis_on, gives_more, gives_same, gives_while}
use Rattle.lt_workers.proofs.line_driving.Shared+Line+W.fan_line_from.Goals as goal

pub drive_all-ended-requires-clause-free : goal.drive_all-ended-requires-clause-free
drive_all-ended-requires-clause-free g c = λ lifetimes outlive. c.count_segments-end.ensures.continues.free

pub drive_all-ended-requires-clause-base : goal.drive_all-ended-requires-clause-base
drive_all-ended-requires-clause-base g c = λ lifetimes outlive. basis_on c.args.seat.now.token.me.0 c.count_segments-end.new.seat.token.me.0 _ c.count_segments-end.ensures.continues.same.0 c.requires.base

pub hand_on_rest-requires-clause-free : goal.hand_on_rest-requires-clause-free
hand_on_rest-requires-clause-free g c = λ lifetimes outlive. c.drive_all-ended.ensures.drives.0.free

pub hand_on_rest-requires-clause-ends : goal.hand_on_rest-requires-clause-ends
hand_on_rest-requires-clause-ends g c = λ lifetimes outlive. c.drive_all-ended.ensures.drives.1

pub hand_on_rest-requires-clause-end : goal.hand_on_rest-requires-clause-end
hand_on_rest-requires-clause-end g c = λ lifetimes outlive.
    basis_on c.args.seat.now.token.me.0 c.drive_all-ended.new.seat.token.me.0 _ (c.drive_all-ended.ensures.drives.0.same.0 ∙ c.count_segments-end.ensures.continues.same.0) c.count_segments-end.ensures.count

pub hand_on_rest-requires-clause-base : goal.hand_on_rest-requires-clause-base
hand_on_rest-requires-clause-base g c = λ lifetimes outlive. λ b opened m fits.
    c.drive_all-ended.ensures.base m (c.requires.base b (sym (c.drive_all-ended.ensures.drives.0.same.0 ∙ c.count_segments-end.ensures.continues.same.0) ∙ opened) m fits)

pub returns-clause-drives : goal.returns-clause-drives
returns-clause-drives g c =
    let u = c.args.seat.now.token.me.0 in
    let v = c.count_segments-end.new.seat.token.me.0 in
    let w = c.drive_all-ended.new.seat.token.me.0 in
    let x = c.hand_on_rest.new.seat.token.me.0 in
    let net = line_net_of g.W.LeafWork.does in
    (continues_then net u w x (continues_then net u v w c.count_segments-end.ensures.continues c.drive_all-ended.ensures.drives.0) c.hand_on_rest.ensures.drives.0, c.hand_on_rest.ensures.drives.1)

pub returns-clause-given : goal.returns-clause-given
returns-clause-given g c =
    let u = c.args.seat.now.token.me.0 in
    let v = c.count_segments-end.new.seat.token.me.0 in
    let w = c.drive_all-ended.new.seat.token.me.0 in
    let x = c.hand_on_rest.new.seat.token.me.0 in
    let does = g.W.LeafWork.does in
    let start = g.O.OnFinal.given c.args.on.now in
    let more = g.O.OnFinal.given c.drive_all-ended.new.on in
    let all = g.O.OnFinal.given c.hand_on_rest.new.on in
    let here = gives_while does u u v start start c.args.count.now c.args.count.now c.count_segments-end.ensures.continues (gives_same does u start c.args.count.now) in
    gives_more does u w x start more all c.args.count.now c.drive_all-ended.new.count c.hand_on_rest.new.count
    (gives_more does u v w start start more c.args.count.now c.args.count.now c.drive_all-ended.new.count here c.drive_all-ended.ensures.given) c.hand_on_rest.ensures.given

pub returns-clause-base : goal.returns-clause-base
returns-clause-base g c = λ m fits. c.hand_on_rest.ensures.base m (c.drive_all-ended.ensures.base m fits)

pub returns-clause-all : goal.returns-clause-all
returns-clause-all g c = λ is before h b opened.
    let u = c.args.seat.now.token.me.0 in
    let v = c.count_segments-end.new.seat.token.me.0 in
    let start = g.O.OnFinal.given c.args.on.now in
    let here = gives_while g.W.LeafWork.does u u v start start c.args.count.now c.args.count.now c.count_segments-end.ensures.continues (gives_same g.W.LeafWork.does u start c.args.count.now) in
    c.hand_on_rest.ensures.all is before (c.drive_all-ended.ensures.given before (here before h)) ∙ c.count_segments-end.ensures.count b opened
