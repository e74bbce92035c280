use Rattle.std.proofs.Common.{◌≡◌, ◌++◌, ◌∷◌, [], List, ℕ, drop, sym, ap, ◌∙◌}
use Rattle.std.proofs.lemmas.List.{take-append-drop}
use Rattle.lt_face.specs.Rows.{first_from}
use Rattle.lt_over.proofs.Runs.{taken_below}
use Rattle.lt_over.proofs.run.below.Goals as goal

pub returns-in-Some-clause-front : goal.returns-in-Some-clause-front
returns-in-Some-clause-front c = record { rest = drop c.place_near.result c.args.run.now; whole = sym (take-append-drop c.place_near.result c.args.run.now) }

pub returns-in-Some-clause-below : goal.returns-in-Some-clause-below
returns-in-Some-clause-below c =
    let is : c.args.edit.now ≡ c.in-Some.prefix.now ++ c.in-Some.last.now ∷ [] = sym c.cells.ensures.cells ∙ c.in-Some.ensures.cases.0 in
    taken_below c.args.run.now c.args.edit.now c.place_near.result c.requires.rises (ap (λ (q : List ℕ). first_from c.args.run.now q) is ∙ c.place_near.ensures.found)
