use Rattle.std.specs.Prelude.{filter_map}
use Rattle.lt_model.specs.Answers.{answer_of, picks}
use Rattle.lt_query.proofs.Ascending.{IsAscending-ascending, ascending_same}
use Rattle.lt_query.proofs.Given.{IsIn-answers_of, IsAnswer-from_answers, some_answer-satisfied, IsSatisfied-from_some}
use Rattle.lt_query.proofs.laws.answers_of_bodies.Goals as goal

pub returns-clause-ascend : goal.returns-clause-ascend
returns-clause-ascend c = λ terms body state. IsAscending-ascending (filter_map (answer_of terms body state) (picks body.atoms state))

pub returns-clause-cells : goal.returns-clause-cells
returns-clause-cells c = λ terms body state tests bound row. (IsAnswer-from_answers terms body state row, IsIn-answers_of terms body state row tests bound)

pub returns-clause-some : goal.returns-clause-some
returns-clause-some c = λ body state tests. (IsSatisfied-from_some body state, some_answer-satisfied body state tests)

pub returns-clause-one : goal.returns-clause-one
returns-clause-one c = λ xs ys up down same. ascending_same xs ys up down (λ q. (same q).0) (λ q. (same q).1)
