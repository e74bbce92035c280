use Rattle.lt_workers.proofs.Knowing.{closed_free}
use Rattle.lt_workers.proofs.shared.Shared.close.Goals as goal

pub returns-clause-free : goal.returns-clause-free
returns-clause-free g c =
    closed_free g.M.Machine.net c.args.seat.token.me.0 (g.M.Machine.stand c.close-machine.result.machine) c.close-machine.ensures.opening c.close-machine.ensures.journal c.entries-entries.ensures.standing c.requires.every.0 c.requires.every.1 c.close-machine.ensures.goes_on
