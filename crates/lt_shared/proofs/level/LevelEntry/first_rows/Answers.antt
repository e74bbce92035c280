use Rattle.std.proofs.Common.{slice_get, ap, ◌∙◌}
use Rattle.lt_shared.specs.Entries.{joined}
use Rattle.lt_shared.proofs.Runs.{head-first}
use Rattle.lt_shared.proofs.level.LevelEntry.first_rows.Goals as goal

pub returns-clause-first : goal.returns-clause-first
returns-clause-first g c =
    head-first (joined g.T.Entry.rows) c.args.entries.now c.index-entries-0.result c.first_rows.result.now c.requires c.index-entries-0.is c.first_rows.ensures.some
    (c.first_rows.ensures.first ∙ ap (λ entries. slice_get (joined g.T.Entry.rows entries) 0) c.entries.ensures.entries)
