-- What stays of slices where rows changed, and what the mended ones stand for.
use Rattle.std.specs.Prelude.{◌≡◌, ℕ, ◌<◌, ◌≤◌, true, ◌==◌, nat_lt, nat_le, List, [], ◌∷◌, length, ◌⊎◌, Some}
use Rattle.std.proofs.Common.{refl, sym, ◌∙◌, subst, inl, inr, arith}
use Rattle.std.proofs.lemmas.Bool.{and_parts, and_from, eqb-true, eqb-false, eq-eqb, leb-true, ltb-true, le-leb, lt-ltb, cases_Bool, true≢false}
use Rattle.lt_face.specs.Lists.{IsIn, AnyByRecursion}
use Rattle.lt_face.specs.State.{Row, State, AgreeOn, Has, permuted, rows_in}
use Rattle.lt_face.proofs.Membership.{IsIn-map, IsIn-map_from}
use Rattle.lt_face.proofs.RowLemmas.{each_weaker}
use Rattle.lt_trie.specs.Under.{next_cell}
use Rattle.lt_model.specs.declared.normal.Term.{Term}
use Rattle.lt_model.specs.declared.normal.Body.{Body}
use Rattle.lt_model.specs.Answers.{answers, ascending}
use Rattle.lt_model.specs.Bound.{are_bound}
use Rattle.lt_query.specs.Answering.{AreTestsBound}
use Rattle.lt_query.specs.Lists.{IsRising}
use Rattle.lt_query.specs.Plan.{Keys, term_at, IsPlanOf}
use Rattle.lt_query.specs.declared.plans.Guide.{Guide}
use Rattle.lt_query.specs.declared.plans.Plan.{Plan}
use Rattle.lt_sense.specs.declared.covering.KeptGap.{KeptGap}
use Rattle.lt_sense.specs.Kept.{Sense}
use Rattle.lt_sense.specs.Sense.{lies_in, gap_covers, AgreeWhereCovered, IsTight}
use Rattle.lt_join.specs.Slices.{Slice}
use Rattle.lt_join.specs.Certify.{Certifies}
use Rattle.lt_join.specs.Explored.{IsPassed}
use Rattle.lt_sense.specs.Cut.{cut}
use Rattle.lt_join.specs.Mended.{AreSlicesOn, HaveTouched, AreMended, AreJoinedOn}
use Rattle.lt_join.specs.Sliced.{pinned, slice_keys, united, sliced_rows, CertifiesBut, IsSliceOf, AreRooted, AreRootGaps}
use Rattle.lt_join.proofs.Gaps.{next_in}
use Rattle.lt_join.proofs.MendedGaps.{IsPartOf, cut_from, cut_with}
use Rattle.lt_join.proofs.Pinned.{term_in}
use Rattle.lt_join.proofs.Repair.{All_of, All_at, GapIsTight, Certifies-moved, answers_same, IsTight-moved}
use Rattle.lt_join.proofs.SliceLaws.{grows_root, grows_slice, but_rooted, certified_whole, tight_whole, answers_whole}
use Rattle.lt_join.proofs.Steps.{covers_grows}

-- ---- what can be told

same_number : (x y : ℕ) → (x ≡ y) ⊎ (x ≡ y → ⊥)
same_number x y = elim (cases_Bool (x == y)) [ inl e ↦ inl (eqb-true x y e) | inr e ↦ inr (eqb-false x y e) ]

same_row : (a b : Row) → (a ≡ b) ⊎ (a ≡ b → ⊥)
same_row [] [] = inl refl
same_row [] (y ∷ ys) = inr (λ e. cc)
same_row (x ∷ xs) [] = inr (λ e. cc)
same_row (x ∷ xs) (y ∷ ys) =
    elim (same_number x y) [
      | inl e ↦ elim (same_row xs ys) [
        | inl f ↦ inl (cc)
        | inr g ↦ inr (λ q. g (cc))
      ]
      | inr g ↦ inr (λ q. g (cc))
    ]

-- whether an element stands in a list can be told where equality can
in_or_not : {X : Type 0} → ((x y : X) → (x ≡ y) ⊎ (x ≡ y → ⊥)) → (x : X) (xs : List X) → IsIn x xs ⊎ (IsIn x xs → ⊥)
in_or_not same x [] = inr (λ h. h)
in_or_not same x (y ∷ ys) =
    elim (same y x) [
      | inl e ↦ inl (inl e)
      | inr e ↦ elim (in_or_not same x ys) [
        | inl h ↦ inl (inr h)
        | inr h ↦ inr (λ at. elim at [ inl q ↦ e q | inr r ↦ h r ])
      ]
    ]

agree_or_not : (s t : State) (relation : ℕ) (row : Row) → AgreeOn s t relation row ⊎ (AgreeOn s t relation row → ⊥)
agree_or_not s t relation row =
    elim (in_or_not same_row row (rows_in s relation)) [
      | inl in_s ↦ elim (in_or_not same_row row (rows_in t relation)) [
        | inl in_t ↦ inl (λ h. in_t, λ h. in_s)
        | inr not_t ↦ inr (λ agree. not_t (agree.0 in_s))
      ]
      | inr not_s ↦ elim (in_or_not same_row row (rows_in t relation)) [
        | inl in_t ↦ inr (λ agree. not_s (agree.1 in_t))
        | inr not_t ↦ inl (λ h. absurd (not_s h), λ h. absurd (not_t h))
      ]
    ]

-- ---- the cut root

lies_wider : (prefix : Row) (lo hi low high : ℕ) (cells : Row) → low ≤ lo → hi ≤ high → lies_in prefix lo hi cells ≡ true → lies_in prefix low high cells ≡ true
lies_wider prefix lo hi low high [] from to h = cc
lies_wider [] lo hi low high (x ∷ xs) from to h =
    let both = and_parts (nat_le lo x) (nat_lt x hi) h in
    let a = leb-true lo x both.0 in
    let b = ltb-true x hi both.1 in
    and_from (nat_le low x) (nat_lt x high) (le-leb low x (omega arith)) (lt-ltb x high (omega arith))
lies_wider (p ∷ ps) lo hi low high (x ∷ xs) from to h =
    let both = and_parts (p == x) (lies_in ps lo hi xs) h in
    and_from (p == x) (lies_in ps low high xs) both.0 (lies_wider ps lo hi low high xs from to both.1)

-- what lies in a part of a gap lies in the gap
pub lies_in_whole : (gap part : KeptGap) (row : Row) → IsPartOf gap part → lies_in part.prefix part.lo part.hi (permuted part.columns row) ≡ true → lies_in gap.prefix gap.lo gap.hi (permuted gap.columns row) ≡ true
lies_in_whole gap part row is_part h =
    subst (λ columns. lies_in gap.prefix gap.lo gap.hi (permuted columns row) ≡ true) (sym is_part.columns)
    (subst (λ prefix. lies_in prefix gap.lo gap.hi (permuted part.columns row) ≡ true) (sym is_part.prefix)
    (lies_wider part.prefix part.lo part.hi gap.lo gap.hi (permuted part.columns row) is_part.from is_part.to h))

-- the states agree on the rows that lie in the cut root
agree_in_cut : (keys : List ℕ) (root : Sense) (slices : List Slice) (s t : State) → HaveTouched keys root slices s t → (part : KeptGap) → IsIn part (cut keys root).gaps → (row : Row) → lies_in part.prefix part.lo part.hi (permuted part.columns row) ≡ true → AgreeOn s t part.relation row
agree_in_cut keys root slices s t touched part at row inside =
    elim (agree_or_not s t part.relation row) [
      | inl agree ↦ agree
      | inr differ ↦
          let found = cut_from keys root part at in
          let next = next_in part.prefix part.lo part.hi (permuted part.columns row) inside in
          let covered : gap_covers found.0 part.relation row ≡ true = and_from (found.0.relation == part.relation) (lies_in found.0.prefix found.0.lo found.0.hi (permuted found.0.columns row)) (eq-eqb found.0.relation part.relation found.2.relation) (lies_in_whole found.0 part row found.2 inside) in
          let cell : next_cell found.0.prefix (permuted found.0.columns row) ≡ Some next.0 =
          subst (λ columns. next_cell found.0.prefix (permuted columns row) ≡ Some next.0) (sym found.2.columns)
          (subst (λ prefix. next_cell prefix (permuted part.columns row) ≡ Some next.0) (sym found.2.prefix) next.1) in
          absurd (found.3 next.0 (touched part.relation row next.0 differ (inr (found.0, found.1, (covered, cell)))) (next.2, next.3))
    ]

tight_cut : (keys : List ℕ) (root : Sense) (slices : List Slice) (s t : State) → HaveTouched keys root slices s t → IsTight root s → IsTight (cut keys root) t
tight_cut keys root slices s t touched tight = record {
  gaps = All_of (GapIsTight t) (cut keys root).gaps (λ part at row there.
      elim (cases_Bool (lies_in part.prefix part.lo part.hi (permuted part.columns row))) [
        | inl inside ↦
            let found = cut_from keys root part at in
            let before : Has s part.relation row = (agree_in_cut keys root slices s t touched part at row inside).1 there in
            let free = All_at (GapIsTight s) root.gaps found.0 tight.gaps found.1 row (subst (λ relation. Has s relation row) (sym found.2.relation) before) in
            absurd (true≢false (sym (lies_in_whole found.0 part row found.2 inside) ∙ free))
        | inr e ↦ e
      ]);
  hits = tt;
}

passed_cut : (keys : List ℕ) (root : Sense) (l : ℕ) (above : Keys) (k : ℕ) (guides : List Guide) → AnyByRecursion (IsPassed root l above k) guides → IsIn k keys ⊎ AnyByRecursion (IsPassed (cut keys root) l above k) guides
passed_cut keys root l above k [] h = absurd h
passed_cut keys root l above k (guide ∷ guides) h =
    elim h [
      | inl p ↦ elim (cut_with keys root p.gap k p.kept (p.from, p.below)) [
        | inl key ↦ inl key
        | inr part ↦ inr (inl (record {
          gap = part.0;
          kept = part.1;
          relation = sym part.2.relation ∙ p.relation;
          columns = sym part.2.columns ∙ p.columns;
          prefix = sym part.2.prefix ∙ p.prefix;
          at = p.at;
          from = part.3.0;
          below = part.3.1;
        }))
      ]
      | inr r ↦ elim (passed_cut keys root l above k guides r) [ inl key ↦ inl key | inr q ↦ inr (inr q) ]
    ]

rooted_cut : (keys : List ℕ) (body : Body) (plan : Plan) (root : Sense) (old new : List Slice) → AreMended keys old new → AreRooted body plan root (slice_keys old) → AreRooted body plan (cut keys root) (slice_keys new)
rooted_cut keys body plan root old new mended rooted k cell =
    elim (rooted k cell) [
      | inl there ↦
          let s = IsIn-map_from (λ (slice : Slice). slice.key) k old there in
          elim (mended.kept s.0 s.1) [
            | inl key ↦ inl (mended.has k (subst (λ x. IsIn x keys) s.2 key))
            | inr stays ↦ inl (subst (λ x. IsIn x (slice_keys new)) s.2 (IsIn-map (λ (slice : Slice). slice.key) s.0 new stays))
          ]
      | inr skipped ↦ elim skipped [
        | inl passed ↦ elim (passed_cut keys root 0 _ k plan.guides passed) [ inl key ↦ inl (mended.has k key) | inr p ↦ inr (inl p) ]
        | inr hopeless ↦ inr (inr hopeless)
      ]
    ]

-- the parts of root gaps are root gaps
pub root_gaps_cut : (keys : List ℕ) (root : Sense) → AreRootGaps root → AreRootGaps (cut keys root)
root_gaps_cut keys root are = All_of (λ (gap : KeptGap). gap.prefix ≡ []) (cut keys root).gaps (λ part at.
    let found = cut_from keys root part at in
    sym found.2.prefix ∙ All_at (λ (gap : KeptGap). gap.prefix ≡ []) root.gaps found.0 are found.1)

-- ---- slices

slice_stays : (terms : List Term) (body : Body) (term : Term) (s t : State) (slice : Slice) → AgreeWhereCovered slice.sense s t → IsSliceOf terms body term s slice → IsSliceOf terms body term t slice
slice_stays terms body term s t slice agree h = record {
  rows = h.rows ∙ answers_same slice.sense terms (pinned term slice.key body) s t agree h.certified;
  certified = Certifies-moved slice.sense s t agree (pinned term slice.key body) h.certified;
  tight = IsTight-moved slice.sense s t agree h.tight;
}

-- slices stay where states agree on all that they and the root gaps cover
pub stay_slices : (terms : List Term) (body : Body) (plan : Plan) (s t : State) (root : Sense) (slices : List Slice) → AreSlicesOn terms body plan s root slices → AgreeWhereCovered (united root slices) s t → AreSlicesOn terms body plan t root slices
stay_slices terms body plan s t root slices were agree = record {
  ascending = were.ascending;
  each = All_of (IsSliceOf terms body (term_at plan.levels 0) t) slices (λ slice at.
      slice_stays terms body (term_at plan.levels 0) s t slice
      (λ relation row covered. agree relation row (covers_grows slice.sense (united root slices) (grows_slice root slices slice at) relation row covered))
      (All_at (IsSliceOf terms body (term_at plan.levels 0) s) slices slice were.each at));
  rooted = were.rooted;
  tight = IsTight-moved root s t (λ relation row covered. agree relation row (covers_grows root (united root slices) (grows_root root slices) relation row covered)) were.tight;
  root_hits = were.root_hits;
  root_gaps = were.root_gaps;
}

-- root gaps cut at the touched keys and mended slices are those of the new state
pub mended_are_slices : (keys : List ℕ) (terms : List Term) (body : Body) (plan : Plan) (s t : State) (root : Sense) (old new : List Slice) → AreSlicesOn terms body plan s root old → HaveTouched keys root old s t → AreMended keys old new → IsRising (slice_keys new) → AreJoinedOn keys terms body plan t new → AreSlicesOn terms body plan t (cut keys root) new
mended_are_slices keys terms body plan s t root old new were touched mended rising joined = record {
  ascending = rising;
  each = All_of (IsSliceOf terms body (term_at plan.levels 0) t) new (λ slice at.
      elim (in_or_not same_number slice.key keys) [
        | inl key ↦ joined slice at key
        | inr other ↦ elim (mended.others slice at) [
          | inl key ↦ absurd (other key)
          | inr stays ↦ slice_stays terms body (term_at plan.levels 0) s t slice
              (λ relation row covered. elim (agree_or_not s t relation row) [
                | inl agree ↦ agree
                | inr differ ↦ absurd (other (touched relation row slice.key differ (inl (slice, stays, refl, covered))))
              ])
              (All_at (IsSliceOf terms body (term_at plan.levels 0) s) old slice were.each stays)
        ]
      ]);
  rooted = rooted_cut keys body plan root old new mended were.rooted;
  tight = tight_cut keys root old s t touched were.tight;
  root_hits = refl;
  root_gaps = root_gaps_cut keys root were.root_gaps;
}

-- ---- what they stand for

but_keys : (terms : List Term) (body : Body) (plan : Plan) (state : State) (root : Sense) (slices : List Slice) → IsPlanOf body plan → 0 < length plan.levels → AreSlicesOn terms body plan state root slices → CertifiesBut (slice_keys slices) (term_at plan.levels 0) root body state
but_keys terms body plan state root slices of_body some are = but_rooted body plan root state (slice_keys slices) of_body some are.tight are.rooted

pub certified_of : (terms : List Term) (body : Body) (plan : Plan) (state : State) (root : Sense) (slices : List Slice) → IsPlanOf body plan → 0 < length plan.levels → AreSlicesOn terms body plan state root slices → Certifies (united root slices) body state
certified_of terms body plan state root slices of_body some are =
    certified_whole root slices (term_at plan.levels 0) body state (but_keys terms body plan state root slices of_body some are)
    (each_weaker (IsSliceOf terms body (term_at plan.levels 0) state) (λ (slice : Slice). Certifies slice.sense (pinned (term_at plan.levels 0) slice.key body) state) (λ slice h. h.certified) slices are.each)

pub tight_of : (terms : List Term) (body : Body) (plan : Plan) (state : State) (root : Sense) (slices : List Slice) → AreSlicesOn terms body plan state root slices → IsTight (united root slices) state
tight_of terms body plan state root slices are =
    tight_whole root slices state are.tight (each_weaker (IsSliceOf terms body (term_at plan.levels 0) state) (λ (slice : Slice). IsTight slice.sense state) (λ slice h. h.tight) slices are.each)

pub answers_of : (terms : List Term) (body : Body) (plan : Plan) (state : State) (root : Sense) (slices : List Slice) → IsPlanOf body plan → 0 < length plan.levels → AreTestsBound body → are_bound body terms ≡ true → AreSlicesOn terms body plan state root slices → answers terms body state ≡ ascending (sliced_rows slices)
answers_of terms body plan state root slices of_body some whole heads are =
    answers_whole root slices terms (term_at plan.levels 0) body state whole heads (term_in body plan of_body 0 some) (but_keys terms body plan state root slices of_body some are) are.each
