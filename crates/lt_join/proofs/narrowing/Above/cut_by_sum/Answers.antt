use Rattle.std.specs.Prelude.{◌≡◌, Some}
use Rattle.std.proofs.Common.{ap, sym, ◌∙◌}
use Rattle.std.proofs.lemmas.Bool.{eq-eqb}
use Rattle.lt_model.specs.Answers.{cell_of}
use Rattle.lt_model.specs.Cells.{sum_of}
use Rattle.lt_join.proofs.Bounding.{some_same}
use Rattle.lt_join.proofs.narrowing.Above.cut_by_sum.Goals as goal

pub returns-in-Some : goal.returns-in-Some
returns-in-Some c = λ s k agrees sum here.
    let both = ap (λ x. sum_of c.args.minus x (cell_of s c.args.b)) (c.in-Some-Some.ensures s agrees) ∙ ap (sum_of c.args.minus c.in-Some-Some.x) (c.in-Some-Some.ensures' s agrees) in
    let same : Some k ≡ Some c.in-Some.key = sym sum ∙ (both ∙ (sym c.sum_of.ensures ∙ c.in-Some.is)) in
    c.by.ensures k here (eq-eqb k c.in-Some.key (some_same k c.in-Some.key same))
