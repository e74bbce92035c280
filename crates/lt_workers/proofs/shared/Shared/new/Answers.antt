use Rattle.std.proofs.Common.{rules, ◌≡◌, Some, None, sym, ap, ◌∙◌}
use Rattle.lt_net.specs.Net.{State}
use Rattle.lt_workers.proofs.Knowing.{reached_as, claims_of}
use Rattle.lt_workers.proofs.shared.Shared.new.Goals as goal

pub returns-in-Ok-clause-known : goal.returns-in-Ok-clause-known
returns-in-Ok-clause-known g c =
    let opening : c.in-Ok.seat.token.me.0.opening ≡ Some (g.M.Machine.stand c.args.machine).basis = search rules in
    let seen : c.in-Ok.seat.token.me.0.seen ≡ (g.M.Machine.stand c.args.machine).pairs = search rules in
    reached_as g.M.Machine.net _ _ (g.M.Machine.stand c.args.machine) opening seen c.entries-entries.ensures.standing

pub returns-in-Ok-clause-free : goal.returns-in-Ok-clause-free
returns-in-Ok-clause-free g c =
    let opening : c.in-Ok.seat.token.me.0.opening ≡ Some (g.M.Machine.stand c.args.machine).basis = search rules in
    let seen : c.in-Ok.seat.token.me.0.seen ≡ (g.M.Machine.stand c.args.machine).pairs = search rules in
    let known = reached_as g.M.Machine.net _ _ (g.M.Machine.stand c.args.machine) opening seen c.entries-entries.ensures.standing in
    λ worker low high. claims_of g.M.Machine.net c.in-Ok.seat.token.me.0 (g.M.Machine.stand c.args.machine).state known worker None (c.requires.free worker)

pub returns-in-Ok-clause-begun : goal.returns-in-Ok-clause-begun
returns-in-Ok-clause-begun g c =
    let opening : c.in-Ok.seat.token.me.0.opening ≡ Some (g.M.Machine.stand c.args.machine).basis = search rules in
    let begun : c.in-Ok.seat.token.me.0.begun ≡ (g.M.Machine.stand c.args.machine).pairs = search rules in
    let known = reached_as g.M.Machine.net _ _ (g.M.Machine.stand c.args.machine) opening begun c.entries-entries.ensures.standing in
    λ s is worker. let e : Some s ≡ Some (g.M.Machine.stand c.args.machine).state = sym is ∙ known in let same : s ≡ (g.M.Machine.stand c.args.machine).state = cc in ap (λ (x : State). x.claim worker) same ∙ c.requires.free worker
