use Rattle.std.proofs.Common.{◌+◌, ◌-◌, ◌/◌, sym, subst}
use Rattle.lt_workers.specs.Driven.{Drives}
use Rattle.lt_workers.proofs.Continuing.{halves_join}
use Rattle.lt_workers.proofs.shared.+fan_out.Goals as goal

pub Shared::fan_out-returns-clause-drives : goal.Shared::fan_out-returns-clause-drives
Shared::fan_out-returns-clause-drives g n c =
    let u = c.args.seat.now.token.me.0 in
    let at = c.first-first.result + (c.end-end.result - c.first-first.result) / 2 in
    subst (Drives g.M.Machine.net u c.join.new.seat.token.me.0) (sym c.either.ensures)
    (halves_join g.M.Machine.net u c.split.new.seat.token.me.0 c.in-Ok.high.token.me.0 c.halves-one.new.low.token.me.0 c.halves-one.new.high.token.me.0 c.join.new.seat.token.me.0 at c.halves-one.result.0 c.halves-one.result.1
    c.in-Ok.ensures.low c.in-Ok.ensures.high c.halves-one.ensures.low.1 c.halves-one.ensures.high.1 c.join.ensures.view c.join.ensures.low c.join.ensures.high)
