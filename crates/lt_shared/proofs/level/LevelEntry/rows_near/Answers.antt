use Rattle.std.proofs.Common.{◌<◌, ◌++◌, ◌∷◌, [], length, List, ℕ, sym, ap, ◌∙◌, subst}
use Rattle.std.specs.List.{AllByRecursion}
use Rattle.lt_face.specs.Rows.{IsAscending, IsRun, first_from}
use Rattle.lt_shared.specs.Entries.{joined}
use Rattle.lt_shared.proofs.Joins.{ascending-at, each-at, found-or_next}
use Rattle.lt_shared.proofs.Runs.{run-at}
use Rattle.lt_shared.proofs.level.LevelEntry.rows_near.Goals as goal

pub rows_near-found-requires-clause-rises : goal.rows_near-found-requires-clause-rises
rows_near-found-requires-clause-rises g c =
    subst (λ entries. IsAscending (joined g.T.Entry.rows entries)) (sym c.entries.ensures.entries)
    (ascending-at (joined g.T.Entry.rows) c.args.entries.now c.place_near-at.result c.index-entries-at.result c.requires.rises c.place_near-at.ensures.within c.index-entries-at.is)

pub rows_near-found-requires-clause-wide : goal.rows_near-found-requires-clause-wide
rows_near-found-requires-clause-wide g c =
    subst (λ entries. AllByRecursion (λ (row : List ℕ). length c.args.prefix.now < length row) (joined g.T.Entry.rows entries)) (sym c.entries.ensures.entries)
    (each-at (λ row. length c.args.prefix.now < length row) (joined g.T.Entry.rows) c.args.entries.now c.place_near-at.result c.index-entries-at.result c.requires.wide c.place_near-at.ensures.within c.index-entries-at.is)

pub or_next-requires-clause-run : goal.or_next-requires-clause-run
or_next-requires-clause-run g c =
    run-at (joined g.T.Entry.rows) c.args.entries.now c.place_near-at.result c.index-entries-at.result c.rows_near-found.result.now c.place_near-at.ensures.within c.index-entries-at.is
    (subst (λ entries. IsRun (joined g.T.Entry.rows entries) c.rows_near-found.result.now) c.entries.ensures.entries c.rows_near-found.ensures.run)

pub returns-clause-first : goal.returns-clause-first
returns-clause-first g c =
    let q = c.args.prefix.now ++ c.args.bound ∷ [] in
    found-or_next (joined g.T.Entry.rows) c.args.entries.now q c.place_near-at.result c.index-entries-at.result _ _
    c.place_near-at.ensures c.index-entries-at.is (c.rows_near-found.ensures.first ∙ ap (λ entries. first_from (joined g.T.Entry.rows entries) q) c.entries.ensures.entries) c.or_next.ensures.first
