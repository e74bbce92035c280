use Rattle.std.proofs.Common.{rules, ◌≡◌, ◌<◌, arith}
use Rattle.lt_workers.proofs.Continuing.{continues_end}
use Rattle.lt_workers.proofs.shared.Shared.take_up.Goals as goal

pub returns-then-is_left-clause-goes : goal.returns-then-is_left-clause-goes
returns-then-is_left-clause-goes g c =
    let x = c.abandon.ensures.abandons in
    let v = c.args.seat.now.token.me.0 in
    let w = c.abandon.new.seat.token.me.0 in
    let first : c.first.result ≡ v.first = search rules in
    let spared : 0 < c.first.result = c.is_left.ensures c.if-is_left.true in (
      continues_end g.M.Machine.net v w (g.M.Machine.stand x.before) (g.M.Machine.stand x.after) c.abandon.ensures.same c.requires.others x.visits c.abandon.ensures.others c.abandon.ensures.free,
      ((g.M.Machine.stand x.after).state, x.visits.known, omega (arith, spared, first, c.abandon.ensures.same.3), c.abandon.ensures.gave_back),
    )
