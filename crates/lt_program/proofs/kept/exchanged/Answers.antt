use Rattle.std.proofs.Common.{false, ap, ◌∙◌}
use Rattle.lt_model.specs.Effect.{marks_on}
use Rattle.lt_model.specs.Marks.{and_then}
use Rattle.lt_program.specs.Kept.{first_rows}
use Rattle.lt_program.proofs.kept.exchanged.Goals as goal

pub returns : goal.returns
returns c =
    c.in_ok-marks.ensures
    ∙ ap (λ m. and_then m c.in_ok-come.come) (c.in_ok-gone.ensures ∙ ap (marks_on c.args.left false) c.first_of-rows.ensures)
    ∙ ap (and_then (marks_on c.args.left false (first_rows c.args.outcome.now))) c.in_ok-come.ensures
