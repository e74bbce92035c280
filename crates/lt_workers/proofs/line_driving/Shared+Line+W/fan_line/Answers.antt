use Rattle.std.proofs.Common.{◌≡◌, ◌∙◌, Some, refl, sym, subst}
use Rattle.lt_workers.specs.Machines.{line_net_of}
use Rattle.lt_workers.specs.Seen.{reached}
use Rattle.lt_workers.proofs.SeenFinals.{given_there, seen_none}
use Rattle.lt_workers.proofs.line_driving.Shared+Line+W.fan_line.Goals as goal

pub returns-clause-given : goal.returns-clause-given
returns-clause-given g c = λ s known b opened.
    let does = g.W.LeafWork.does in
    let v = c.args.seat.now.token.me.0 in
    let w = c.fan_line_from-ended.new.seat.token.me.0 in
    let start = g.O.OnFinal.given c.args.on.now in
    let from = sym c.fan_line_from-ended.ensures.drives.0.same.0 ∙ opened in
    let goes = subst (λ o. reached (line_net_of does) o w.seen ≡ Some s) opened known in
    let seen = c.fan_line_from-ended.ensures.given start (seen_none does v b start from) in
    given_there does w b w.seen s start (g.O.OnFinal.given c.fan_line_from-ended.new.on) c.fan_line_from-ended.new.count opened refl (c.fan_line_from-ended.ensures.small b from) goes seen

pub returns-clause-all : goal.returns-clause-all
returns-clause-all g c = λ is b opened.
    let v = c.args.seat.now.token.me.0 in
    let start = g.O.OnFinal.given c.args.on.now in
    c.fan_line_from-ended.ensures.all is start (seen_none g.W.LeafWork.does v b start opened) b opened
