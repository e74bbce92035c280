-- What a walk that looks for one assignment tells.
use Rattle.std.specs.Prelude.{◌≡◌, ℕ, Bool, true, false, List, []}
use Rattle.std.proofs.Common.{refl, sym, ap, ◌∙◌, subst, inl, inr}
use Rattle.std.proofs.lemmas.Bool.{cases_Bool, true≢false}
use Rattle.lt_model.specs.declared.normal.Term.{Term}
use Rattle.lt_model.specs.declared.normal.Body.{Body}
use Rattle.lt_model.specs.Bound.{are_bound}
use Rattle.lt_sense.specs.Kept.{Sense}
use Rattle.lt_join.specs.declared.Found.{Found}
use Rattle.lt_face.specs.Lists.{IsIn}
use Rattle.lt_face.specs.State.{State}
use Rattle.lt_model.specs.Answers.{some_answer}
use Rattle.lt_query.specs.Answering.{AreTestsBound, IsAnswer}
use Rattle.lt_join.specs.Certify.{Witnesses, Vouches}
use Rattle.lt_query.specs.Plan.{IsPlanOf}
use Rattle.lt_join.specs.Walked.{at, IsRight}
use Rattle.lt_join.specs.Way.{WayView, HasWalked, IsExploredBelow}
use Rattle.lt_query.proofs.Given.{IsSatisfied-from_some}
use Rattle.lt_join.proofs.Kept.{some_answer-from_witness}
use Rattle.lt_join.proofs.Leaves.{collected}
use Rattle.lt_join.proofs.Steps.{found_all, never_early}

IsAnswer-from_some : (body : Body) (state : State) → some_answer body state ≡ true → IsAnswer [] body state []
IsAnswer-from_some body state h = (let found = IsSatisfied-from_some body state h in (found.0, found.1, found.2, refl, found.3))

-- it stopped at an answer
told_true : (body : Body) (state : State) (sense : Sense) → AreTestsBound body → Witnesses sense body state → (true ≡ some_answer body state) × Vouches sense body state
told_true body state sense whole w =
    let there = some_answer-from_witness sense body state whole w in
    (sym there, record { when_true = λ e. w; when_false = λ e. absurd (true≢false (sym there ∙ e)) })

-- it found none anywhere
told_false : {S : Type 0} → (way : WayView) (found : Found S) → way.first ≡ true → way.terms ≡ [] → IsPlanOf way.body way.plan → AreTestsBound way.body → IsRight way.body way.terms way.state found → found.rows ≡ [] → IsExploredBelow way found []
    → (false ≡ some_answer way.body way.state) × Vouches found.sense way.body way.state
told_false way found first no_terms of_body whole right none explored =
    let heads : are_bound way.body way.terms ≡ true = ap (are_bound way.body) no_terms in
    let all = found_all way found (never_early way (inl first)) of_body whole heads right explored in
    let never : some_answer way.body way.state ≡ true → ⊥ = λ h.
    subst (IsIn []) none (collected way of_body found whole heads right.tight (at []) explored [] (subst (λ (terms : List Term). IsAnswer terms way.body way.state []) (sym no_terms) (IsAnswer-from_some way.body way.state h))) in
    elim (cases_Bool (some_answer way.body way.state)) [
      | inl h ↦ absurd (never h)
      | inr h ↦ (sym h, record { when_true = λ e. absurd (never e); when_false = λ e. all.1 })
    ]

-- what the walk answers
pub told : {S : Type 0} → (way : WayView) (old new : Found S) (begun now : ℕ) (truth : Bool) → IsPlanOf way.body way.plan → AreTestsBound way.body → way.terms ≡ [] → way.first ≡ true → old.rows ≡ [] → HasWalked way [] old new begun now truth
    → (truth ≡ some_answer way.body way.state) × Vouches new.sense way.body way.state
told way old new begun now true of_body whole no_terms first none walked =
    let m = walked.met refl in
    told_true way.body way.state new.sense whole (m.1.0, m.1.1, m.1.2, m.1.4)
told way old new begun now false of_body whole no_terms first none walked =
    told_false way new first no_terms of_body whole walked.right (walked.unfound first ∙ none) (walked.explored (inr refl))
