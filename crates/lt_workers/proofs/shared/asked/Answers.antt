use Rattle.std.proofs.Common.{subst}
use Rattle.lt_workers.specs.Seen.{IsMove}
use Rattle.lt_workers.proofs.Visiting.{still_move}
use Rattle.lt_workers.proofs.shared.asked.Goals as goal

pub returns-clause-moved : goal.returns-clause-moved
returns-clause-moved g c =
    let here = g.M.Machine.stand c.is_due.new.machine in
    subst (λ m. IsMove g.M.Machine.net c.args.worker (g.M.Machine.stand m) here) c.is_due.ensures (still_move g.M.Machine.net c.args.worker here c.entries-entries.ensures.standing)
