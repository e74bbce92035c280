use Rattle.std.proofs.Common.{rules, ◌≡◌, Some}
use Rattle.lt_workers.proofs.Knowing.{reached_as, claims_of}
use Rattle.lt_workers.proofs.shared.Shared.give_back.Goals as goal

pub returns-clause-known : goal.returns-clause-known
returns-clause-known g c =
    let opening : c.give.new.seat.token.me.0.opening ≡ Some (g.M.Machine.stand c.args.handed.machine).basis = search rules in
    let seen : c.give.new.seat.token.me.0.seen ≡ (g.M.Machine.stand c.args.handed.machine).pairs = search rules in
    reached_as g.M.Machine.net _ _ (g.M.Machine.stand c.args.handed.machine) opening seen c.requires.replayed

pub returns-clause-claims : goal.returns-clause-claims
returns-clause-claims g c =
    let opening : c.give.new.seat.token.me.0.opening ≡ Some (g.M.Machine.stand c.args.handed.machine).basis = search rules in
    let seen : c.give.new.seat.token.me.0.seen ≡ (g.M.Machine.stand c.args.handed.machine).pairs = search rules in
    claims_of g.M.Machine.net c.give.new.seat.token.me.0 (g.M.Machine.stand c.args.handed.machine).state (reached_as g.M.Machine.net _ _ (g.M.Machine.stand c.args.handed.machine) opening seen c.requires.replayed)
