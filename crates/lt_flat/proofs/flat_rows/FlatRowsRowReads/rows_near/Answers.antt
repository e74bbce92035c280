use Rattle.std.proofs.Common.{◌≡◌, ◌-◌, ℕ, List, length, take, drop, ap, ◌∙◌, subst}
use Rattle.lt_face.specs.Rows.{IsRun}
use Rattle.lt_flat.proofs.Runs.{run_within}
use Rattle.lt_flat.proofs.flat_rows.FlatRowsRowReads.rows_near.Goals as goal

pub returns-clause-run : goal.returns-clause-run
returns-clause-run c =
    let rows = c.as_slice-rows.result.now in
    let is : rows ≡ c.args.self.now.rows = c.as_slice-rows.ensures ∙ ap (λ s. s.rows) c.self.view_is in
    subst (λ (all : List (List ℕ)). IsRun all (take (length rows - c.place_near-place.result) (drop c.place_near-place.result rows))) is (run_within (length rows - c.place_near-place.result) c.place_near-place.result rows)
