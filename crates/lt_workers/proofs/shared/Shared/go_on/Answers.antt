use Rattle.std.proofs.Common.{subst}
use Rattle.lt_workers.specs.Visit.{HasAnswer}
use Rattle.lt_workers.proofs.Continuing.{others_free, continues_idle, continues_from}
use Rattle.lt_workers.proofs.shared.Shared.go_on.Goals as goal

pub take_up-requires-clause-others : goal.take_up-requires-clause-others
take_up-requires-clause-others g c = λ lifetimes outlive. others_free g.M.Machine.net c.args.seat.now.token.me.0 c.claim_due.new.seat.token.me.0 c.claim_due.ensures.same c.requires.free c.claim_due.ensures.others

pub returns-in-Settled-clause-goes : goal.returns-in-Settled-clause-goes
returns-in-Settled-clause-goes g c =
    let x = c.claim_due.ensures.answer in
    let has = subst (λ a. HasAnswer g.M.Machine.net g.M.Machine.claim_of g.M.Machine.is_job_of c.claim_due.new.seat.token.me.0 a) c.in-Settled.is c.claim_due.ensures.has in
    (continues_idle g.M.Machine.net c.args.seat.now.token.me.0 c.claim_due.new.seat.token.me.0 (g.M.Machine.stand x.before) (g.M.Machine.stand x.after) c.claim_due.ensures.same c.requires.free x.visits c.claim_due.ensures.others has.0, has.1)

pub returns-in-NoMemory-clause-goes : goal.returns-in-NoMemory-clause-goes
returns-in-NoMemory-clause-goes g c =
    let x = c.claim_due.ensures.answer in
    let has = subst (λ a. HasAnswer g.M.Machine.net g.M.Machine.claim_of g.M.Machine.is_job_of c.claim_due.new.seat.token.me.0 a) c.in-NoMemory.is c.claim_due.ensures.has in
    (continues_idle g.M.Machine.net c.args.seat.now.token.me.0 c.claim_due.new.seat.token.me.0 (g.M.Machine.stand x.before) (g.M.Machine.stand x.after) c.claim_due.ensures.same c.requires.free x.visits c.claim_due.ensures.others has, ((g.M.Machine.stand x.after).state, x.visits.known))

pub returns-in-Busy-clause-goes : goal.returns-in-Busy-clause-goes
returns-in-Busy-clause-goes g c =
    let x = c.claim_due.ensures.answer in
    let has = subst (λ a. HasAnswer g.M.Machine.net g.M.Machine.claim_of g.M.Machine.is_job_of c.claim_due.new.seat.token.me.0 a) c.in-Busy.is c.claim_due.ensures.has in
    (continues_idle g.M.Machine.net c.args.seat.now.token.me.0 c.claim_due.new.seat.token.me.0 (g.M.Machine.stand x.before) (g.M.Machine.stand x.after) c.claim_due.ensures.same c.requires.free x.visits c.claim_due.ensures.others has, tt)

pub returns-in-Job-clause-goes : goal.returns-in-Job-clause-goes
returns-in-Job-clause-goes g c =
    let x = c.claim_due.ensures.answer in
    (continues_from g.M.Machine.net c.args.seat.now.token.me.0 c.claim_due.new.seat.token.me.0 c.take_up.new.seat.token.me.0 (g.M.Machine.stand x.before) (g.M.Machine.stand x.after) c.claim_due.ensures.same x.visits c.take_up.ensures.goes.0, c.take_up.ensures.goes.1)
