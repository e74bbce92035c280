-- The slice of one key that was joined by itself.
use Rattle.std.specs.Prelude.{◌≡◌, ℕ, ◌+◌, ◌<◌, true, List, [], ◌∷◌, length}
use Rattle.std.proofs.Common.{refl, sym, ◌∙◌, subst, inl, inr, arith}
use Rattle.std.proofs.lemmas.Bool.{cases_order}
use Rattle.lt_face.specs.Lists.{IsIn, AnyByRecursion}
use Rattle.lt_face.specs.State.{Row, State}
use Rattle.lt_model.specs.declared.normal.Term.{Term}
use Rattle.lt_model.specs.declared.normal.Body.{Body}
use Rattle.lt_model.specs.Answers.{Assignment, holds, terms_of, answers}
use Rattle.lt_model.specs.Bound.{are_bound}
use Rattle.lt_model.specs.Cells.{is_cell}
use Rattle.lt_query.specs.Answering.{AreTestsBound}
use Rattle.lt_query.specs.Plan.{Keys, term_at, keys_under, IsPlanOf}
use Rattle.lt_query.specs.declared.plans.Guide.{Guide}
use Rattle.lt_query.specs.declared.plans.Plan.{Plan}
use Rattle.lt_query.proofs.Ascending.{ascending_same}
use Rattle.lt_query.proofs.Given.{IsIn-answers_of, IsAnswer-from_answers}
use Rattle.lt_sense.specs.Kept.{Sense}
use Rattle.lt_sense.specs.Sense.{IsTight}
use Rattle.lt_join.specs.Certify.{Certifies, IsMissed}
use Rattle.lt_join.specs.Explored.{IsHopeless, IsPassed, with_key}
use Rattle.lt_join.specs.MendedPlan.{pinned_plan}
use Rattle.lt_join.specs.OfKey.{IsOfKey, parts_at}
use Rattle.lt_join.specs.Slices.{Slice}
use Rattle.lt_join.specs.Sliced.{pinned, IsSliceOf}
use Rattle.lt_join.specs.Walked.{at, IsSkipped}
use Rattle.lt_join.proofs.Hopeless.{with_key_agrees}
use Rattle.lt_join.proofs.MendJoin.{no_rows}
use Rattle.lt_join.proofs.PartsAtKey.{part_there, parts_tight}
use Rattle.lt_join.proofs.Pinned.{holds_pinned, pinned_holds, are_bound_pinned, term_in, tests_pinned}
use Rattle.lt_join.proofs.PinnedPlan.{term_same}
use Rattle.lt_join.proofs.Repair.{IsAscending-answers, not_missed}
use Rattle.lt_join.proofs.Walks.{followed_at}

-- ---- a key that the first level hasn't

abbrev at_key : ℕ → Sense → Sense
at_key key passed = record { gaps = parts_at key passed.gaps; hits = [] }

-- what a gap has at the key is passed there, too
passed_at : (key : ℕ) (passed : Sense) (l : ℕ) (keys : Keys) (guides : List Guide) → AnyByRecursion (IsPassed passed l keys key) guides → AnyByRecursion (IsPassed (at_key key passed) l keys key) guides
passed_at key passed l keys [] h = h
passed_at key passed l keys (guide ∷ guides) h = elim h [
  | inl p ↦ inl (record {
    gap = record p.gap { lo = key; hi = key + 1 };
    kept = part_there key passed.gaps p.gap p.kept p.from p.below;
    relation = p.relation;
    columns = p.columns;
    prefix = p.prefix;
    at = p.at;
    from = omega arith;
    below = omega arith;
  })
  | inr r ↦ inr (passed_at key passed l keys guides r)
]

module _ (terms : List Term) (body : Body) (plan : Plan) (state : State) (passed : Sense) (key : ℕ) (of_body : IsPlanOf body plan) (some : 0 < length plan.levels) (tight : IsTight passed state) (skipped : is_cell key ≡ true → IsSkipped body plan passed [] key) where
  tight_at : IsTight (at_key key passed) state
  tight_at = record { gaps = parts_tight state key passed.gaps tight.gaps; hits = tt }

  -- nothing holds there that isn't missed
  missed_at : (a : Assignment) → holds a (pinned (term_at plan.levels 0) key body) ≡ true → AnyByRecursion (IsMissed (at_key key passed) state a) body.atoms
  missed_at a h =
      let held = holds_pinned a (term_at plan.levels 0) key body h in
      elim (followed_at body plan (at_key key passed) state tight_at a held.0 of_body 0 (at []) some (λ m lt. absurd (omega arith)) (λ k. k ≡ key → IsHopeless body plan.levels 1 (with_key (at []) 0 k))
      (λ k cell. elim (cases_order k key) [
        | inl same ↦ elim (skipped (subst (λ c. is_cell c ≡ true) same cell)) [
          | inl gaps ↦ inl (subst (λ c. AnyByRecursion (IsPassed (at_key key passed) 0 (at []) c) plan.guides) (sym same) (passed_at key passed 0 (at []) plan.guides gaps))
          | inr hopeless ↦ inr (λ e. subst (λ c. IsHopeless body plan.levels 1 (with_key (at []) 0 c)) (sym same) hopeless)
        ]
        | inr apart ↦ elim apart [
          | inl below ↦ inr (λ e. absurd (omega arith))
          | inr above ↦ inr (λ e. absurd (omega arith))
        ]
      ])) [
        | inl missed ↦ missed
        | inr hopeless ↦ absurd (hopeless held.1 a (with_key_agrees plan.levels a 0 (at []) (keys_under a plan.levels 0) (λ m lt. absurd (omega arith)) refl) held.0)
      ]

  -- the slice is what the gaps have at the key
  pub passed_slice : (slice : Slice) → slice.key ≡ key → slice.rows ≡ [] → slice.sense ≡ at_key key passed → IsSliceOf terms body (term_at plan.levels 0) state slice
  passed_slice slice same rows sense =
      let term : Term = term_at plan.levels 0 in
      let of_key : Body = pinned term key body in
      record {
        rows = subst (λ k. slice.rows ≡ answers terms (pinned term k body) state) (sym same) (rows ∙ no_rows (answers terms of_key state) (λ row there.
            let answer = IsAnswer-from_answers terms of_key state row there in
            not_missed (at_key key passed) state answer.0 body.atoms answer.2 (missed_at answer.0 answer.1)));
        certified =
            subst (λ (s : Sense). Certifies s (pinned term slice.key body) state) (sym sense)
            (subst (λ k. Certifies (at_key key passed) (pinned term k body) state) (sym same) (λ a h. inr (inl (missed_at a h))));
        tight = subst (λ (s : Sense). IsTight s state) (sym sense) tight_at;
      }

-- ---- a body that is pinned twice to one key

module _ (terms : List Term) (body : Body) (term : Term) (state : State) (key : ℕ) (at : IsIn term (terms_of body.atoms)) (whole : AreTestsBound body) (heads : are_bound body terms ≡ true) where
  abbrev once : Body
  once = pinned term key body

  whole_once : AreTestsBound once
  whole_once = tests_pinned term key body at whole

  heads_once : are_bound once terms ≡ true
  heads_once = are_bound_pinned term key body at terms ∙ heads

  answers_once : answers terms (pinned term key once) state ≡ answers terms once state
  answers_once =
      ascending_same (answers terms (pinned term key once) state) (answers terms once state) (IsAscending-answers terms (pinned term key once) state) (IsAscending-answers terms once state)
      (λ row there.
      let answer = IsAnswer-from_answers terms (pinned term key once) state row there in
      IsIn-answers_of terms once state row whole_once heads_once (answer.0, (holds_pinned answer.0 term key once answer.1).0, answer.2, answer.3, answer.4))
      (λ row there.
      let answer = IsAnswer-from_answers terms once state row there in
      IsIn-answers_of terms (pinned term key once) state row (tests_pinned term key once at whole_once) (are_bound_pinned term key once at terms ∙ heads_once)
      (answer.0, pinned_holds answer.0 term key once answer.1 (holds_pinned answer.0 term key body answer.1).1, answer.2, answer.3, answer.4))

  -- its slice of that key is the body's
  pub slice_once : (rows : List Row) (sense : Sense) → IsSliceOf terms once term state (record { key = key; rows = rows; sense = sense }) → IsSliceOf terms body term state (record { key = key; rows = rows; sense = sense })
  slice_once rows sense is = record {
    rows = is.rows ∙ answers_once;
    certified = λ a h. is.certified a (pinned_holds a term key once h (holds_pinned a term key body h).1);
    tight = is.tight;
  }

-- ---- by the pinned body and plan

module _ (terms : List Term) (body : Body) (plan : Plan) (state : State) (key : ℕ) (at_key : Body) (way : Plan) (is_body : at_key ≡ pinned (term_at plan.levels 0) key body) (is_plan : way ≡ pinned_plan key plan) where
  -- the slice is the body's
  pub slice_pinned : IsPlanOf body plan → 0 < length plan.levels → AreTestsBound body → are_bound body terms ≡ true → (rows : List Row) (sense : Sense) → IsSliceOf terms at_key (term_at way.levels 0) state (record { key = key; rows = rows; sense = sense }) → IsSliceOf terms body (term_at plan.levels 0) state (record { key = key; rows = rows; sense = sense })
  slice_pinned of_body some whole heads rows sense is =
      let slice : Slice = record { key = key; rows = rows; sense = sense } in
      let once : Body = pinned (term_at plan.levels 0) key body in
      slice_once terms body (term_at plan.levels 0) state key (term_in body plan of_body 0 some) whole heads rows sense
      (subst (λ (t : Term). IsSliceOf terms once t state slice) (term_same key plan.levels 0)
      (subst (λ (p : Plan). IsSliceOf terms once (term_at p.levels 0) state slice) is_plan (subst (λ (b : Body). IsSliceOf terms b (term_at way.levels 0) state slice) is_body is)))

  -- and of the key alone
  pub of_key_pinned : (sense : Sense) → IsOfKey key at_key way state sense → IsOfKey key body (pinned_plan key plan) state sense
  of_key_pinned sense is =
      elim (subst (λ (p : Plan). IsOfKey key (pinned (term_at plan.levels 0) key body) p state sense) is_plan (subst (λ (b : Body). IsOfKey key b way state sense) is_body is)) [
        | inl at ↦ inl at
        | inr below ↦ inr (record { found = below.found; gaps = below.gaps; hits = below.hits })
      ]

-- an empty sense has nothing of another key
pub empty_of_key : (key : ℕ) (body : Body) (plan : Plan) (state : State) (sense : Sense) → sense ≡ record { gaps = []; hits = [] } → IsOfKey key body plan state sense
empty_of_key key body plan state sense none = inl (rw none (record { gaps = tt; hits = refl }))
