use Rattle.std.proofs.Common.{◌<◌, ◌+◌, length, subst, arith}
use Rattle.lt_face.specs.Rows.{IsRun}
use Rattle.lt_shared.specs.Entries.{joined}
use Rattle.lt_shared.proofs.Runs.{run-at}
use Rattle.lt_shared.proofs.level.or_next.Goals as goal

pub returns-clause-run : goal.returns-clause-run
returns-clause-run g c =
    let lt : c.args.at + 1 < length c.args.entries.now = omega (arith, c.requires.within, c.if-entries-at.false) in
    run-at (joined g.T.Entry.rows) c.args.entries.now (c.args.at + 1) c.index-entries-at.result c.first_rows.result.now lt c.index-entries-at.is
    (subst (λ entries. IsRun (joined g.T.Entry.rows entries) c.first_rows.result.now) c.entries.ensures.entries c.first_rows.ensures.run)
