-- Runs of rows that follow one another.
use Rattle.std.proofs.Common.{ℕ, List, ◌++◌, take, drop, sym, ap, ◌∙◌}
use Rattle.std.proofs.lemmas.List.{take-append-drop}
use Rattle.lt_face.specs.Rows.{IsRun}

-- so many rows from a place on
pub run_within : (n at : ℕ) (rows : List (List ℕ)) → IsRun rows (take n (drop at rows))
run_within n at rows = record {
  before = take at rows;
  after = drop n (drop at rows);
  whole = sym (ap (λ t. take at rows ++ t) (take-append-drop n (drop at rows)) ∙ take-append-drop at rows);
}
