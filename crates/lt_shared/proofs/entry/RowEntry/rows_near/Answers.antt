use Rattle.std.proofs.Common.{◌<◌, ◌-◌, ◌++◌, ◌∷◌, [], length, take, drop, List, ℕ, sym, ap, ◌∙◌, subst}
use Rattle.std.specs.List.{AllByRecursion}
use Rattle.lt_face.specs.Rows.{IsAscending, IsRun, first_from}
use Rattle.lt_flat.proofs.Runs.{run_within}
use Rattle.lt_shared.proofs.Gathered.{joined-rows}
use Rattle.lt_shared.proofs.Runs.{head_within}
use Rattle.lt_shared.proofs.entry.RowEntry.rows_near.Goals as goal

pub place_near-at-requires-clause-rises : goal.place_near-at-requires-clause-rises
place_near-at-requires-clause-rises c = subst IsAscending (joined-rows c.args.entries.now) c.requires.rises

pub place_near-at-requires-clause-wide : goal.place_near-at-requires-clause-wide
place_near-at-requires-clause-wide c = subst (AllByRecursion (λ (row : List ℕ). length c.args.prefix.now < length row)) (joined-rows c.args.entries.now) c.requires.wide

pub returns-clause-run : goal.returns-clause-run
returns-clause-run c =
    let rows = c.args.entries.now in
    let at = c.place_near-at.result in
    subst (λ (all : List (List ℕ)). IsRun all (take (length rows - at) (drop at rows))) (sym (joined-rows rows)) (run_within (length rows - at) at rows)

pub returns-clause-first : goal.returns-clause-first
returns-clause-first c =
    let rows = c.args.entries.now in
    head_within c.place_near-at.result rows ∙ sym c.place_near-at.ensures.found ∙ ap (λ all. first_from all (c.args.prefix.now ++ c.args.bound ∷ [])) (sym (joined-rows rows))
