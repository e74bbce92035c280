use Rattle.std.proofs.Common.{rules, ◌≡◌, ◌<◌, Some, None, arith}
use Rattle.lt_workers.proofs.Visiting.{visited, may_give, still_over, others_kept, has_answer}
use Rattle.lt_workers.proofs.shared.Shared.claim_due.Goals as goal

pub asked-answer-requires-clause-free : goal.asked-answer-requires-clause-free
asked-answer-requires-clause-free g c =
    let first : c.first.result ≡ c.args.seat.now.token.me.0.first = search rules in
    let more : c.args.seat.now.token.me.0.first < c.args.seat.now.token.me.0.end = search rules in
    c.receive-handed.ensures.claims c.first.result None (omega arith) (omega arith) (rw first c.requires.free)

pub give_back-requires-clause-journal : goal.give_back-requires-clause-journal
give_back-requires-clause-journal g c =
    let first : c.first.result ≡ c.args.seat.now.token.me.0.first = search rules in
    may_give g.M.Machine.net c.args.seat.now.token.me.0 c.receive-handed.new.seat.token.me.0 (g.M.Machine.stand c.receive-handed.result.machine) (g.M.Machine.stand c.asked-answer.new.machine) c.first.result first c.asked-answer.ensures.moved c.receive-handed.new.seat.token.me.0 c.receive-handed.ensures.view

pub give_back-requires-clause-opening : goal.give_back-requires-clause-opening
give_back-requires-clause-opening g c =
    let first : c.first.result ≡ c.args.seat.now.token.me.0.first = search rules in
    still_over g.M.Machine.net c.args.seat.now.token.me.0 c.receive-handed.new.seat.token.me.0 (g.M.Machine.stand c.receive-handed.result.machine) (g.M.Machine.stand c.asked-answer.new.machine) c.first.result first c.asked-answer.ensures.moved c.receive-handed.new.seat.token.me.0 c.receive-handed.ensures.view c.receive-handed.ensures.opening

pub returns-clause-answer : goal.returns-clause-answer
returns-clause-answer g c =
    let first : c.first.result ≡ c.args.seat.now.token.me.0.first = search rules in
    record {
      before = c.receive-handed.result.machine;
      after = c.asked-answer.new.machine;
      visits = visited g.M.Machine.net c.args.seat.now.token.me.0 c.give_back.new.seat.token.me.0 (g.M.Machine.stand c.receive-handed.result.machine) (g.M.Machine.stand c.asked-answer.new.machine) c.first.result first c.asked-answer.ensures.moved c.receive-handed.ensures.opening c.receive-handed.ensures.extends c.give_back.ensures.seen c.give_back.ensures.known;
      says = tt;
    }

pub returns-clause-has : goal.returns-clause-has
returns-clause-has g c =
    let first : c.first.result ≡ c.args.seat.now.token.me.0.first = search rules in
    let same : c.give_back.new.seat.token.me.0.first ≡ c.args.seat.now.token.me.0.first = search rules in
    let opening : c.give_back.new.seat.token.me.0.opening ≡ Some (g.M.Machine.stand c.receive-handed.result.machine).basis = search rules in
    has_answer g.M.Machine.net c.args.seat.now.token.me.0 c.give_back.new.seat.token.me.0 (g.M.Machine.stand c.receive-handed.result.machine) (g.M.Machine.stand c.asked-answer.new.machine) c.first.result first c.asked-answer.ensures.moved c.give_back.ensures.claims same g.M.Machine.claim_of g.M.Machine.is_job_of c.asked-answer.result c.asked-answer.ensures.given opening c.give_back.ensures.known

pub returns-clause-others : goal.returns-clause-others
returns-clause-others g c =
    let first : c.first.result ≡ c.args.seat.now.token.me.0.first = search rules in
    others_kept g.M.Machine.net c.args.seat.now.token.me.0 c.give_back.new.seat.token.me.0 (g.M.Machine.stand c.receive-handed.result.machine) (g.M.Machine.stand c.asked-answer.new.machine) c.first.result first c.asked-answer.ensures.moved c.give_back.ensures.claims c.receive-handed.ensures.claims
