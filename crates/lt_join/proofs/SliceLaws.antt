-- A body's first level, and its slices.
use Rattle.std.specs.Prelude.{◌≡◌, ℕ, zero, suc, ◌+◌, ◌<◌, ◌≤◌, true, List, [], ◌∷◌, ◌++◌, length, drop, slice_get, Some, ◌⊎◌}
use Rattle.std.specs.List.{AllByRecursion, flat_map}
use Rattle.std.proofs.Common.{refl, sym, ◌∙◌, subst, inl, inr, arith}
use Rattle.lt_face.specs.Lists.{IsIn, AnyByRecursion}
use Rattle.lt_face.specs.State.{Row, State, Has}
use Rattle.lt_face.proofs.Membership.{IsIn-append_left, IsIn-append_right, IsIn-append_cases, IsIn-map_from, IsIn-flat_map, IsIn-flat_map_from}
use Rattle.lt_face.proofs.RowLemmas.{each_weaker}
use Rattle.lt_model.specs.declared.normal.Term.{Term}
use Rattle.lt_model.specs.declared.normal.Atom.{Atom}
use Rattle.lt_model.specs.declared.normal.Body.{Body}
use Rattle.lt_model.specs.Answers.{Assignment, cell_of, cells_of, holds, terms_of, answers, ascending}
use Rattle.lt_model.specs.Bound.{are_bound}
use Rattle.lt_query.specs.Answering.{Stands, Lacks, AreTestsBound}
use Rattle.lt_query.proofs.Ascending.{IsAscending-ascending, IsIn-ascending, IsIn-ascending_from, ascending_same}
use Rattle.lt_query.proofs.Given.{IsIn-answers_of, IsAnswer-from_answers}
use Rattle.lt_query.specs.declared.plans.Level.{Level}
use Rattle.lt_query.specs.declared.plans.Guide.{Guide}
use Rattle.lt_query.specs.declared.plans.Plan.{Plan}
use Rattle.lt_query.specs.Plan.{term_at, keys_under, IsPlanOf, IsLevelOf, AreLevelsFrom}
use Rattle.lt_sense.specs.declared.covering.Hit.{Hit}
use Rattle.lt_sense.specs.Kept.{Sense}
use Rattle.lt_sense.specs.Sense.{IsTight}
use Rattle.lt_join.specs.declared.Found.{Found}
use Rattle.lt_join.specs.Slices.{Slice}
use Rattle.lt_join.specs.Certify.{Certifies, IsMet, IsMissed}
use Rattle.lt_join.specs.Cost.{cost_from}
use Rattle.lt_join.specs.Sliced.{pinned, slice_keys, united, sliced_rows, CertifiesBut, IsSliceOf, AreRooted}
use Rattle.lt_join.specs.Explored.{AgreeBelow, IsHopeless, with_key}
use Rattle.lt_join.specs.Walked.{at, Grows, AreFoundUnder}
use Rattle.lt_join.specs.Way.{WayView, IsExploredBelow}
use Rattle.lt_join.proofs.Hopeless.{with_key_agrees}
use Rattle.lt_join.proofs.Leaves.{collected_below, certified_below}
use Rattle.lt_join.proofs.Lists.{some_is}
use Rattle.lt_join.proofs.Pinned.{holds_pinned, pinned_holds, are_bound_pinned, tests_pinned, term_in}
use Rattle.lt_join.proofs.Repair.{All_at, All_of, GapIsTight, IsAscending-answers, not_missed}
use Rattle.lt_join.proofs.Steps.{covers_grows, explored_settled, met_grows, never_early}
use Rattle.lt_join.proofs.Walks.{followed_at}

-- ---- the whole

missed_grows : (s t : Sense) → Grows s t → (state : State) (a : Assignment) (atoms : List Atom) → AnyByRecursion (IsMissed s state a) atoms → AnyByRecursion (IsMissed t state a) atoms
missed_grows s t grows state a [] h = h
missed_grows s t grows state a (atom ∷ atoms) h =
    elim h [ inl m ↦ inl (m.0, covers_grows s t grows atom.relation (cells_of a atom.terms) m.1) | inr r ↦ inr (missed_grows s t grows state a atoms r) ]

all_missed_grow : (s t : Sense) → Grows s t → (state : State) (a : Assignment) (atoms : List Atom) → AllByRecursion (IsMissed s state a) atoms → AllByRecursion (IsMissed t state a) atoms
all_missed_grow s t grows state a [] h = tt
all_missed_grow s t grows state a (atom ∷ atoms) h = ((h.0.0, covers_grows s t grows atom.relation (cells_of a atom.terms) h.0.1), all_missed_grow s t grows state a atoms h.1)

some_met_grows : (s t : Sense) → Grows s t → (state : State) (a : Assignment) (atoms : List Atom) → AnyByRecursion (IsMet s state a) atoms → AnyByRecursion (IsMet t state a) atoms
some_met_grows s t grows state a [] h = h
some_met_grows s t grows state a (atom ∷ atoms) h = elim h [ inl m ↦ inl (m.0, covers_grows s t grows atom.relation (cells_of a atom.terms) m.1) | inr r ↦ inr (some_met_grows s t grows state a atoms r) ]

-- what stands for an assignment still does
pub stands_for_grows : (s t : Sense) → Grows s t → (state : State) (a : Assignment) (body : Body)
    → (AllByRecursion (IsMet s state a) body.atoms × AllByRecursion (IsMissed s state a) body.absents) ⊎ (AnyByRecursion (IsMissed s state a) body.atoms ⊎ AnyByRecursion (IsMet s state a) body.absents)
    → (AllByRecursion (IsMet t state a) body.atoms × AllByRecursion (IsMissed t state a) body.absents) ⊎ (AnyByRecursion (IsMissed t state a) body.atoms ⊎ AnyByRecursion (IsMet t state a) body.absents)
stands_for_grows s t grows state a body h =
    elim h [
      | inl met ↦ inl (met_grows s t grows state a body.atoms met.0, all_missed_grow s t grows state a body.absents met.1)
      | inr other ↦ elim other [ inl missed ↦ inr (inl (missed_grows s t grows state a body.atoms missed)) | inr met ↦ inr (inr (some_met_grows s t grows state a body.absents met)) ]
    ]

pub grows_root : (root : Sense) (slices : List Slice) → Grows root (united root slices)
grows_root root slices = record {
  gaps = λ gap h. IsIn-append_left gap root.gaps (flat_map (λ (slice : Slice). slice.sense.gaps) slices) h;
  hits = λ hit h. IsIn-append_left hit root.hits (flat_map (λ (slice : Slice). slice.sense.hits) slices) h;
}

pub grows_slice : (root : Sense) (slices : List Slice) (slice : Slice) → IsIn slice slices → Grows slice.sense (united root slices)
grows_slice root slices slice at = record {
  gaps = λ gap h. IsIn-append_right gap root.gaps (flat_map (λ (s : Slice). s.sense.gaps) slices) (IsIn-flat_map (λ (s : Slice). s.sense.gaps) slice gap slices at h);
  hits = λ hit h. IsIn-append_right hit root.hits (flat_map (λ (s : Slice). s.sense.hits) slices) (IsIn-flat_map (λ (s : Slice). s.sense.hits) slice hit slices at h);
}

pub certified_whole : (root : Sense) (slices : List Slice) (term : Term) (body : Body) (state : State) → CertifiesBut (slice_keys slices) term root body state → AllByRecursion (λ (slice : Slice). Certifies slice.sense (pinned term slice.key body) state) slices → Certifies (united root slices) body state
certified_whole root slices term body state but each a held =
    elim (but a held) [
      | inl there ↦
          let s = IsIn-map_from (λ (slice : Slice). slice.key) (cell_of a term) slices there in
          let certified = All_at (λ (slice : Slice). Certifies slice.sense (pinned term slice.key body) state) slices s.0 each s.1 in
          stands_for_grows s.0.sense (united root slices) (grows_slice root slices s.0 s.1) state a body (certified a (pinned_holds a term s.0.key body held (sym s.2)))
      | inr missed ↦ inr (inl (missed_grows root (united root slices) (grows_root root slices) state a body.atoms missed))
    ]

all_parts : {X : Type 0} (P : X → Type 0) (first : List X) (part : Slice → List X) (slices : List Slice) → AllByRecursion P first → AllByRecursion (λ slice. AllByRecursion P (part slice)) slices → AllByRecursion P (first ++ flat_map part slices)
all_parts P first part slices h each =
    All_of P (first ++ flat_map part slices) (λ x at.
    elim (IsIn-append_cases x first (flat_map part slices) at) [
      | inl there ↦ All_at P first x h there
      | inr there ↦
          let s = IsIn-flat_map_from part x slices there in
          All_at P (part s.0) x (All_at (λ slice. AllByRecursion P (part slice)) slices s.0 each s.1) s.2
    ])

pub tight_whole : (root : Sense) (slices : List Slice) (state : State) → IsTight root state → AllByRecursion (λ (slice : Slice). IsTight slice.sense state) slices → IsTight (united root slices) state
tight_whole root slices state tight each = record {
  gaps = all_parts (GapIsTight state) root.gaps (λ (slice : Slice). slice.sense.gaps) slices tight.gaps
      (each_weaker (λ (slice : Slice). IsTight slice.sense state) (λ (slice : Slice). AllByRecursion (GapIsTight state) slice.sense.gaps) (λ slice h. h.gaps) slices each);
  hits = all_parts (λ (hit : Hit). Has state hit.relation hit.row) root.hits (λ (slice : Slice). slice.sense.hits) slices tight.hits
      (each_weaker (λ (slice : Slice). IsTight slice.sense state) (λ (slice : Slice). AllByRecursion (λ (hit : Hit). Has state hit.relation hit.row) slice.sense.hits) (λ slice h. h.hits) slices each);
}

-- an answer with this cell is one of the body with the term pinned to it
pub answer_pinned : (terms : List Term) (term : Term) (body : Body) (state : State) → AreTestsBound body → are_bound body terms ≡ true → IsIn term (terms_of body.atoms) → (a : Assignment) (key : ℕ) → holds a body ≡ true → Stands a body.atoms state → Lacks a body.absents state → cell_of a term ≡ key → IsIn (cells_of a terms) (answers terms (pinned term key body) state)
answer_pinned terms term body state whole heads at a key held stands none cell =
    IsIn-answers_of terms (pinned term key body) state (cells_of a terms) (tests_pinned term key body at whole) (are_bound_pinned term key body at terms ∙ heads)
    (a, pinned_holds a term key body held cell, stands, refl, none)

pub answers_whole : (root : Sense) (slices : List Slice) (terms : List Term) (term : Term) (body : Body) (state : State) → AreTestsBound body → are_bound body terms ≡ true → IsIn term (terms_of body.atoms) → CertifiesBut (slice_keys slices) term root body state → AllByRecursion (IsSliceOf terms body term state) slices → answers terms body state ≡ ascending (sliced_rows slices)
answers_whole root slices terms term body state whole heads at but each =
    ascending_same (answers terms body state) (ascending (sliced_rows slices)) (IsAscending-answers terms body state) (IsAscending-ascending (sliced_rows slices))
    (λ row there.
    let answer = IsAnswer-from_answers terms body state row there in
    elim (but answer.0 answer.1) [
      | inl key ↦
          let s = IsIn-map_from (λ (slice : Slice). slice.key) (cell_of answer.0 term) slices key in
          let is_slice = All_at (IsSliceOf terms body term state) slices s.0 each s.1 in
          let of_slice : IsIn row s.0.rows = rw is_slice.rows (subst (λ r. IsIn r (answers terms (pinned term s.0.key body) state)) answer.3 (answer_pinned terms term body state whole heads at answer.0 s.0.key answer.1 answer.2 answer.4 (sym s.2))) in
          IsIn-ascending row (sliced_rows slices) (IsIn-flat_map (λ (slice : Slice). slice.rows) s.0 row slices s.1 of_slice)
      | inr missed ↦ absurd (not_missed root state answer.0 body.atoms answer.2 missed)
    ])
    (λ row there.
    let s = IsIn-flat_map_from (λ (slice : Slice). slice.rows) row slices (IsIn-ascending_from row (sliced_rows slices) there) in
    let is_slice = All_at (IsSliceOf terms body term state) slices s.0 each s.1 in
    let answer = IsAnswer-from_answers terms (pinned term s.0.key body) state row (subst (IsIn row) is_slice.rows s.2) in
    IsIn-answers_of terms body state row whole heads (answer.0, (holds_pinned answer.0 term s.0.key body answer.1).0, answer.2, answer.3, answer.4))

-- ---- the first level

pub first_is : (body : Body) (all levels : List Level) (level : Level) → AreLevelsFrom body all 0 levels → slice_get levels 0 ≡ Some level → IsLevelOf body all 0 level
first_is body all [] level are e = cc
first_is body all (x ∷ levels) level are e = subst (IsLevelOf body all 0) (some_is x level e) are.0

-- what the first level keeps certifies the body but for its keys
pub but_rooted : (body : Body) (plan : Plan) (root : Sense) (state : State) (keys : List ℕ) → IsPlanOf body plan → 0 < length plan.levels → IsTight root state → AreRooted body plan root keys → CertifiesBut keys (term_at plan.levels 0) root body state
but_rooted body plan root state keys of_body some tight rooted a held =
    elim (followed_at body plan root state tight a held of_body 0 (at []) some (λ m lt. absurd (omega arith)) (λ k. IsIn k keys ⊎ IsHopeless body plan.levels 1 (with_key (at []) 0 k))
    (λ k cell. elim (rooted k cell) [
      | inl there ↦ inr (inl there)
      | inr skipped ↦ elim skipped [ inl passed ↦ inl passed | inr hopeless ↦ inr (inr hopeless) ]
    ])) [
      | inl missed ↦ inr missed
      | inr on ↦ elim on [
        | inl there ↦ inl there
        | inr hopeless ↦ absurd (hopeless a (with_key_agrees plan.levels a 0 (at []) (keys_under a plan.levels 0) (λ m lt. absurd (omega arith)) refl) held)
      ]
    ]

-- ---- one slice

pub one_less : (levels : List Level) → 0 < length levels → 1 + length (drop 1 levels) ≡ length levels
one_less [] lt = absurd (omega arith)
one_less (level ∷ levels) lt = omega arith

agree_first : (a : Assignment) (levels : List Level) (key : ℕ) → cell_of a (term_at levels 0) ≡ key → AgreeBelow 1 (at (key ∷ [])) (keys_under a levels)
agree_first a levels key e zero lt = sym e
agree_first a levels key e (suc m) lt = absurd (omega arith)

-- what a walk below a key of the first level found is the key's slice
pub is_slice : {S : Type 0} → (way : WayView) (begun found : Found S) (key : ℕ) (rows : List Row) → IsPlanOf way.body way.plan → 0 < length way.plan.levels → length way.plan.levels ≤ way.wanted → AreTestsBound way.body → are_bound way.body way.terms ≡ true → IsTight found.sense way.state → begun.rows ≡ [] → AreFoundUnder way.terms way.body way.plan way.state (key ∷ []) begun found → IsExploredBelow way found (key ∷ []) → rows ≡ ascending found.rows
    → IsSliceOf way.terms way.body (term_at way.plan.levels 0) way.state (record { key = key; rows = rows; sense = found.sense })
is_slice way begun found key rows of_body some all whole heads tight none under explored sorted =
    let body : Body = way.body in
    let plan : Plan = way.plan in
    let terms : List Term = way.terms in
    let state : State = way.state in
    let term : Term = term_at plan.levels 0 in
    let e = one_less plan.levels some in
    let stands_in = term_in body plan of_body 0 some in
    record {
      rows = sorted ∙ ascending_same (ascending found.rows) (answers terms (pinned term key body) state) (IsAscending-ascending found.rows) (IsAscending-answers terms (pinned term key body) state)
          (λ row there. elim (under row (IsIn-ascending_from row found.rows there)) [
            | inl old ↦ absurd (subst (IsIn row) none old)
            | inr new ↦ subst (λ r. IsIn r (answers terms (pinned term key body) state)) new.3 (answer_pinned terms term body state whole heads stands_in new.0 key new.1 new.2 new.5 (new.4 0 (omega arith)))
          ])
          (λ row there.
          let answer = IsAnswer-from_answers terms (pinned term key body) state row there in
          let held = holds_pinned answer.0 term key body answer.1 in
          IsIn-ascending row found.rows (subst (λ r. IsIn r found.rows) answer.3
          (collected_below way of_body found whole heads tight (drop 1 plan.levels) 1 (at (key ∷ [])) explored e answer.0 (agree_first answer.0 plan.levels key held.1) held.0 answer.2 answer.4)));
      certified = λ a h.
          let held = holds_pinned a term key body h in
          certified_below body plan of_body found.sense state (drop 1 plan.levels) 1 (at (key ∷ [])) whole tight
          (explored_settled way found (never_early way (inr all)) (drop 1 plan.levels) 1 (at (key ∷ [])) explored)
          e a held.0 (agree_first a plan.levels key held.1);
      tight = tight;
    }

-- the moves below the key
pub cost_under : (absents : ℕ) (state : State) (guides : List Guide) (levels : List Level) (pushed : List ℕ) (key begun now : ℕ) → pushed ≡ key ∷ [] → now ≤ begun + cost_from absents state guides (drop (length pushed) levels) (length pushed) (at pushed) → now ≤ begun + cost_from absents state guides (drop 1 levels) 1 (at (key ∷ []))
cost_under absents state guides levels pushed key begun now is h = subst (λ ks. now ≤ begun + cost_from absents state guides (drop (length ks) levels) (length ks) (at ks)) is h
