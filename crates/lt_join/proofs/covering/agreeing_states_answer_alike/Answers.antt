use Rattle.lt_join.proofs.Repair.{answers_same, Certifies-moved, IsTight-moved}
use Rattle.lt_join.proofs.Kept.{some_answer_kept}
use Rattle.lt_join.proofs.covering.agreeing_states_answer_alike.Goals as goal

pub returns-clause-answers : goal.returns-clause-answers
returns-clause-answers c = answers_same

pub returns-clause-certifies : goal.returns-clause-certifies
returns-clause-certifies c = λ sense body s t agree certified. Certifies-moved sense s t agree body certified

pub returns-clause-truth : goal.returns-clause-truth
returns-clause-truth c = λ sense body s t bound agree vouches. (some_answer_kept sense body s t bound agree vouches).0

pub returns-clause-vouches : goal.returns-clause-vouches
returns-clause-vouches c = λ sense body s t bound agree vouches. (some_answer_kept sense body s t bound agree vouches).1

pub returns-clause-tight : goal.returns-clause-tight
returns-clause-tight c = IsTight-moved
