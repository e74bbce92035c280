use Rattle.lt_workers.proofs.Knowing.{claims_stand}
use Rattle.lt_workers.proofs.shared.Shared.receive.Goals as goal

pub returns-clause-claims : goal.returns-clause-claims
returns-clause-claims g c =
    claims_stand g.M.Machine.net c.args.seat.now.token.me.0 (g.M.Machine.stand c.take-handed.result.machine) c.take-handed.ensures.opening c.take-handed.ensures.extends c.entries-entries.ensures.standing
