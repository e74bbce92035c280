use Rattle.lt_workers.proofs.Continuing.{continues_end}
use Rattle.lt_workers.proofs.shared.Shared.work_on.Goals as goal

pub returns-in-Ok-clause-goes : goal.returns-in-Ok-clause-goes
returns-in-Ok-clause-goes g c =
    let x = c.finish.ensures.finishes in
    (continues_end g.M.Machine.net c.args.seat.now.token.me.0 c.finish.new.seat.token.me.0 (g.M.Machine.stand x.before) (g.M.Machine.stand x.after) c.finish.ensures.same c.requires.others x.visits c.finish.ensures.others c.finish.ensures.free, tt)

pub returns-in-Err-clause-goes : goal.returns-in-Err-clause-goes
returns-in-Err-clause-goes g c =
    let x = c.abandon.ensures.abandons in
    (continues_end g.M.Machine.net c.args.seat.now.token.me.0 c.abandon.new.seat.token.me.0 (g.M.Machine.stand x.before) (g.M.Machine.stand x.after) c.abandon.ensures.same c.requires.others x.visits c.abandon.ensures.others c.abandon.ensures.free, ((g.M.Machine.stand x.after).state, x.visits.known))
