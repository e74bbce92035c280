use Rattle.std.proofs.Common.{rules, ◌≡◌, ◌<◌, None, arith}
use Rattle.lt_workers.proofs.Visiting.{visited, may_give, still_over, others_kept, first_has, gave_back}
use Rattle.lt_workers.proofs.shared.Shared.abandon.Goals as goal

pub give_up-spent-requires-clause-claim : goal.give_up-spent-requires-clause-claim
give_up-spent-requires-clause-claim g c =
    let first : c.first.result ≡ c.args.seat.now.token.me.0.first = search rules in
    let more : c.args.seat.now.token.me.0.first < c.args.seat.now.token.me.0.end = search rules in
    c.receive-handed.ensures.claims c.first.result _ (omega arith) (omega arith) (rw first c.requires.claim)

pub give_back-requires-clause-journal : goal.give_back-requires-clause-journal
give_back-requires-clause-journal g c =
    let first : c.first.result ≡ c.args.seat.now.token.me.0.first = search rules in
    may_give g.M.Machine.net c.args.seat.now.token.me.0 c.receive-handed.new.seat.token.me.0 (g.M.Machine.stand c.receive-handed.result.machine) (g.M.Machine.stand c.give_up-spent.new.self) c.first.result first c.give_up-spent.ensures.moved c.receive-handed.new.seat.token.me.0 c.receive-handed.ensures.view

pub give_back-requires-clause-opening : goal.give_back-requires-clause-opening
give_back-requires-clause-opening g c =
    let first : c.first.result ≡ c.args.seat.now.token.me.0.first = search rules in
    still_over g.M.Machine.net c.args.seat.now.token.me.0 c.receive-handed.new.seat.token.me.0 (g.M.Machine.stand c.receive-handed.result.machine) (g.M.Machine.stand c.give_up-spent.new.self) c.first.result first c.give_up-spent.ensures.moved c.receive-handed.new.seat.token.me.0 c.receive-handed.ensures.view c.receive-handed.ensures.opening

pub returns-clause-abandons : goal.returns-clause-abandons
returns-clause-abandons g c =
    let first : c.first.result ≡ c.args.seat.now.token.me.0.first = search rules in
    record {
      before = c.receive-handed.result.machine;
      after = c.give_up-spent.new.self;
      visits = visited g.M.Machine.net c.args.seat.now.token.me.0 c.give_back.new.seat.token.me.0 (g.M.Machine.stand c.receive-handed.result.machine) (g.M.Machine.stand c.give_up-spent.new.self) c.first.result first c.give_up-spent.ensures.moved c.receive-handed.ensures.opening c.receive-handed.ensures.extends c.give_back.ensures.seen c.give_back.ensures.known;
      says = rw (← first) c.give_up-spent.ensures.takes_back;
    }

pub returns-clause-free : goal.returns-clause-free
returns-clause-free g c =
    let first : c.first.result ≡ c.args.seat.now.token.me.0.first = search rules in
    let same : c.give_back.new.seat.token.me.0.first ≡ c.args.seat.now.token.me.0.first = search rules in
    first_has g.M.Machine.net c.args.seat.now.token.me.0 c.give_back.new.seat.token.me.0 (g.M.Machine.stand c.receive-handed.result.machine) (g.M.Machine.stand c.give_up-spent.new.self) c.first.result first c.give_up-spent.ensures.moved c.give_back.ensures.claims same None c.give_up-spent.ensures.free

pub returns-clause-gave_back : goal.returns-clause-gave_back
returns-clause-gave_back g c =
    let first : c.first.result ≡ c.args.seat.now.token.me.0.first = search rules in
    let more : c.args.seat.now.token.me.0.first < c.args.seat.now.token.me.0.end = search rules in
    gave_back g.M.Machine.net c.args.seat.now.token.me.0 c.give_back.new.seat.token.me.0 (g.M.Machine.stand c.receive-handed.result.machine) (g.M.Machine.stand c.give_up-spent.new.self) c.first.result first c.give_up-spent.ensures.moved c.give_back.ensures.claims c.receive-handed.new.seat.token.me.0 c.receive-handed.ensures.view c.give_back.ensures.same more c.give_back.ensures.seen c.give_up-spent.ensures.gave_up

pub returns-clause-others : goal.returns-clause-others
returns-clause-others g c =
    let first : c.first.result ≡ c.args.seat.now.token.me.0.first = search rules in
    others_kept g.M.Machine.net c.args.seat.now.token.me.0 c.give_back.new.seat.token.me.0 (g.M.Machine.stand c.receive-handed.result.machine) (g.M.Machine.stand c.give_up-spent.new.self) c.first.result first c.give_up-spent.ensures.moved c.give_back.ensures.claims c.receive-handed.ensures.claims
