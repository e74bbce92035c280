-- What stays true of a requirement where the states agree.
use Rattle.std.specs.Prelude.{◌≡◌, true}
use Rattle.std.proofs.Common.{sym, ◌∙◌, inl, inr}
use Rattle.std.proofs.lemmas.Bool.{cases_Bool, true≢false}
use Rattle.lt_model.specs.declared.normal.Body.{Body}
use Rattle.lt_sense.specs.Kept.{Sense}
use Rattle.lt_face.specs.State.{State}
use Rattle.lt_model.specs.Answers.{some_answer}
use Rattle.lt_query.specs.Answering.{AreTestsBound}
use Rattle.lt_sense.specs.Sense.{AgreeWhereCovered}
use Rattle.lt_join.specs.Certify.{Witnesses, Vouches}
use Rattle.lt_query.proofs.Given.{some_answer-satisfied}
use Rattle.lt_join.proofs.Repair.{some_answer_same, Certifies-moved, Witnesses-moved, Stands-from_met, Lacks-from_missed}

-- one assignment that holds and stands makes it true
pub some_answer-from_witness : (sense : Sense) (body : Body) (state : State) → AreTestsBound body → Witnesses sense body state → some_answer body state ≡ true
some_answer-from_witness sense body state whole w = some_answer-satisfied body state whole (w.0, w.1, Stands-from_met sense state w.0 body.atoms w.2, Lacks-from_missed sense state w.0 body.absents w.3)

pub some_answer_kept : (sense : Sense) (body : Body) (s t : State) → AreTestsBound body → AgreeWhereCovered sense s t → Vouches sense body s → (some_answer body s ≡ some_answer body t) × Vouches sense body t
some_answer_kept sense body s t whole agree vouches =
    elim (cases_Bool (some_answer body s)) [
      | inl found ↦
          let w = Witnesses-moved sense s t agree body (vouches.when_true found) in
          let there = some_answer-from_witness sense body t whole w in
          (found ∙ sym there, record { when_true = λ e. w; when_false = λ e. absurd (true≢false (sym there ∙ e)) })
      | inr apart ↦
          let same = some_answer_same sense body s t agree (vouches.when_false apart) in
          (same, record { when_true = λ e. absurd (true≢false (sym e ∙ (sym same ∙ apart))); when_false = λ e. Certifies-moved sense s t agree body (vouches.when_false apart) })
    ]
