-- The steps of a walk.
use Rattle.std.specs.Prelude.{◌≡◌, ℕ, zero, suc, ◌+◌, ◌-◌, ◌^◌, ◌<◌, ◌≤◌, true, false, ◌==◌, List, [], ◌∷◌, ◌++◌, map, length, slice_get, take, drop, ◌⊎◌, Some, nat_lt}
use Rattle.std.specs.List.{AllByRecursion, AllZip, list_any, list_all}
use Rattle.lt_model.specs.declared.normal.Atom.{Atom}
use Rattle.lt_sense.specs.declared.covering.KeptGap.{KeptGap}
use Rattle.lt_join.proofs.Repair.{All_at, All_of, list_any_from, list_any_of, Lacks-from_missed}
use Rattle.lt_join.proofs.Leaves.{holds_at_leaf, term_fits, stands_at, IsWitness-at_leaf, IsAnswer-from_witness, answers_are, Certifies-from_explored}
use Rattle.lt_join.proofs.Looked.{gaps_missed, gaps_grow, hit_grows}
use Rattle.lt_query.specs.Answering.{Lacks, AreTestsBound}
use Rattle.lt_model.specs.Bound.{are_bound}
use Rattle.std.proofs.Common.{refl, sym, ap, ◌∙◌, subst, inl, inr, arith, add-zero, get_or}
use Rattle.std.proofs.lemmas.Bool.{and_parts, ltb-true, cases_order, ne_eqb, eq-eqb, or_cases, or_left, or_right, true≢false}
use Rattle.lt_model.specs.declared.normal.Term.{Term}
use Rattle.lt_model.specs.declared.normal.Body.{Body}
use Rattle.lt_query.specs.declared.plans.Level.{Level}
use Rattle.lt_query.specs.declared.plans.Guide.{Guide}
use Rattle.lt_query.specs.declared.plans.Plan.{Plan}
use Rattle.lt_sense.specs.declared.covering.Hit.{Hit}
use Rattle.lt_sense.specs.Kept.{Sense}
use Rattle.lt_join.specs.declared.Found.{Found}
use Rattle.lt_face.specs.Lists.{IsIn}
use Rattle.lt_face.specs.State.{Row, State}
use Rattle.lt_model.specs.Answers.{Assignment, cell_of, cells_of, passes, holds, ascending, answers}
use Rattle.lt_model.specs.Cells.{is_cell}
use Rattle.lt_face.specs.State.{Has}
use Rattle.lt_join.specs.Certify.{Certifies, IsWitness, IsMet, IsMissed, IsGapped, IsHitOf}
use Rattle.lt_sense.specs.Sense.{IsTight, covers, gap_covers, hit_covers}
use Rattle.lt_face.specs.Lists.{AnyByRecursion}
use Rattle.lt_query.specs.Plan.{Keys, IsPlanOf, AreLevelsFrom, IsLevelOf, IsGuideOf, term_at}
use Rattle.lt_join.specs.Explored.{AgreeBelow, Fits, FitFrom, IsHopeless, IsPassed, with_key, Explored, hit_of, AreHits}
use Rattle.lt_join.specs.Walked.{at, leaf_assignment, IsCollected, IsSettled, Grows, FoundGrows, IsRight, HitsAbove, IsReached, IsAnswerUnder, AreFoundUnder, IsSkipped, StandsAt}
use Rattle.lt_join.specs.Way.{WayView, EndsEarly, AreAllFound, IsLeftOut, IsExploredBelow}
use Rattle.lt_join.proofs.Hopeless.{hopeless_under, with_key_before}

passed_grows : (s t : Sense) → Grows s t → (l : ℕ) (keys : Keys) (k : ℕ) (guides : List Guide) → AnyByRecursion (IsPassed s l keys k) guides → AnyByRecursion (IsPassed t l keys k) guides
passed_grows s t grows l keys k [] h = h
passed_grows s t grows l keys k (guide ∷ guides) h =
    elim h [
      | inl p ↦ inl (record { gap = p.gap; kept = grows.gaps p.gap p.kept; relation = p.relation; columns = p.columns; prefix = p.prefix; at = p.at; from = p.from; below = p.below })
      | inr r ↦ inr (passed_grows s t grows l keys k guides r)
    ]

-- what is explored stays explored
pub Explored-grows : (s t : Sense) → Grows s t → (guides : List Guide) (Out Out' : ℕ → Keys → Type 0) → ((l : ℕ) (keys : Keys) → Out l keys → Out' l keys) → (Leaf Leaf' : Keys → Type 0) → ((keys : Keys) → Leaf keys → Leaf' keys) → (levels : List Level) (l : ℕ) (keys : Keys) → Explored s guides Out Leaf levels l keys → Explored t guides Out' Leaf' levels l keys
Explored-grows s t grows guides Out Out' out Leaf Leaf' leaf [] l keys h = leaf keys h
Explored-grows s t grows guides Out Out' out Leaf Leaf' leaf (level ∷ levels) l keys h = λ k cell.
    elim (h k cell) [
      | inl passed ↦ inl (passed_grows s t grows l keys k guides passed)
      | inr other ↦ elim other [ inl left ↦ inr (inl (out (l + 1) (with_key keys l k) left)) | inr deeper ↦ inr (inr (Explored-grows s t grows guides Out Out' out Leaf Leaf' leaf levels (l + 1) (with_key keys l k) deeper)) ]
    ]

hits_grow : (s t : Sense) → Grows s t → (guides : List Guide) (keys : Keys) → AreHits s guides keys → AreHits t guides keys
hits_grow s t grows [] keys h = tt
hits_grow s t grows (guide ∷ guides) keys h = (grows.hits (hit_of keys guide) h.0, hits_grow s t grows guides keys h.1)

pub IsCollected-grows : {S : Type 0} → (body : Body) (plan : Plan) (terms : List Term) (f g : Found S) → FoundGrows f g → (keys : Keys) → IsCollected body plan terms f keys → IsCollected body plan terms g keys
IsCollected-grows body plan terms f g grows keys h = record {
  hits = hits_grow f.sense g.sense grows.sense plan.guides keys h.hits;
  answer = λ held. elim (h.answer held) [
    | inl there ↦ inl (grows.rows _ there.0, gaps_grow f.sense g.sense grows.sense (leaf_assignment body plan.levels keys) body.absents there.1)
    | inr hit ↦ inr (hit_grows f.sense g.sense grows.sense (leaf_assignment body plan.levels keys) body.absents hit)
  ];
}

pub settled_of : {S : Type 0} → (body : Body) (plan : Plan) (terms : List Term) (found : Found S) (keys : Keys) → IsCollected body plan terms found keys → IsSettled body plan found.sense keys
settled_of body plan terms found keys h = record { hits = h.hits; looked = λ held. elim (h.answer held) [ inl there ↦ inl there.1 | inr hit ↦ inr hit ] }

-- what is left out stays so
pub IsLeftOut-grows : {S : Type 0} → (way : WayView) (f g : Found S) → FoundGrows f g → (l : ℕ) (keys : Keys) → IsLeftOut way f l keys → IsLeftOut way g l keys
IsLeftOut-grows way f g grows l keys h =
    elim h [ inl hopeless ↦ inl hopeless | inr early ↦ inr (early.0, λ a agree held stands none. grows.rows _ (early.1 a agree held stands none)) ]

pub explored_grows : {S : Type 0} → (way : WayView) (f g : Found S) → FoundGrows f g → (levels : List Level) (l : ℕ) (keys : Keys) → Explored f.sense way.plan.guides (IsLeftOut way f) (IsCollected way.body way.plan way.terms f) levels l keys → Explored g.sense way.plan.guides (IsLeftOut way g) (IsCollected way.body way.plan way.terms g) levels l keys
explored_grows way f g grows =
    Explored-grows f.sense g.sense grows.sense way.plan.guides (IsLeftOut way f) (IsLeftOut way g) (IsLeftOut-grows way f g grows) (IsCollected way.body way.plan way.terms f) (IsCollected way.body way.plan way.terms g) (IsCollected-grows way.body way.plan way.terms f g grows)

-- of the sense alone, where a walk doesn't end early
pub explored_settled : {S : Type 0} → (way : WayView) (found : Found S) → (EndsEarly way → ⊥) → (levels : List Level) (l : ℕ) (keys : Keys) → Explored found.sense way.plan.guides (IsLeftOut way found) (IsCollected way.body way.plan way.terms found) levels l keys → Explored found.sense way.plan.guides (IsHopeless way.body way.plan.levels) (IsSettled way.body way.plan found.sense) levels l keys
explored_settled way found late =
    Explored-grows found.sense found.sense (record { gaps = λ gap h. h; hits = λ hit h. h }) way.plan.guides
    (IsLeftOut way found) (IsHopeless way.body way.plan.levels) (λ l keys h. elim h [ inl hopeless ↦ hopeless | inr early ↦ absurd (late early.0) ])
    (IsCollected way.body way.plan way.terms found) (IsSettled way.body way.plan found.sense) (settled_of way.body way.plan way.terms found)

-- where all levels are wanted, or the first answer suffices
pub never_early : (way : WayView) → (way.first ≡ true) ⊎ (length way.plan.levels ≤ way.wanted) → EndsEarly way → ⊥
never_early way late early = elim late [ inl first ↦ true≢false (sym first ∙ early.0) | inr all ↦ omega (arith, all, early.1) ]

pub IsSkipped-grows : (body : Body) (plan : Plan) (s t : Sense) → Grows s t → (keys : List ℕ) (k : ℕ) → IsSkipped body plan s keys k → IsSkipped body plan t keys k
IsSkipped-grows body plan s t grows keys k h = elim h [ inl p ↦ inl (passed_grows s t grows (length keys) (at keys) k plan.guides p) | inr u ↦ inr u ]

pub Grows-chain : (s t u : Sense) → Grows s t → Grows t u → Grows s u
Grows-chain s t u g h = record { gaps = λ gap k. h.gaps gap (g.gaps gap k); hits = λ hit k. h.hits hit (g.hits hit k) }

pub FoundGrows-chain : {S : Type 0} → (s t u : Found S) → FoundGrows s t → FoundGrows t u → FoundGrows s u
FoundGrows-chain s t u g h = record { sense = Grows-chain s.sense t.sense u.sense g.sense h.sense; rows = λ row k. h.rows row (g.rows row k) }

pub covers_grows : (s t : Sense) → Grows s t → (relation : ℕ) (row : Row) → covers s relation row ≡ true → covers t relation row ≡ true
covers_grows s t grows relation row h =
    elim (or_cases (list_any (λ gap. gap_covers gap relation row) s.gaps) (list_any (λ hit. hit_covers hit relation row) s.hits) h) [
      | inl g ↦ let f = list_any_from (λ (gap : KeptGap). gap_covers gap relation row) s.gaps g in
          or_left _ (list_any (λ hit. hit_covers hit relation row) t.hits) (list_any_of (λ (gap : KeptGap). gap_covers gap relation row) f.0 t.gaps (grows.gaps f.0 f.1) f.2)
      | inr g ↦ let f = list_any_from (λ (hit : Hit). hit_covers hit relation row) s.hits g in
          or_right (list_any (λ gap. gap_covers gap relation row) t.gaps) _ (list_any_of (λ (hit : Hit). hit_covers hit relation row) f.0 t.hits (grows.hits f.0 f.1) f.2)
    ]

pub met_grows : (s t : Sense) → Grows s t → (state : State) (a : Assignment) (atoms : List Atom) → AllByRecursion (IsMet s state a) atoms → AllByRecursion (IsMet t state a) atoms
met_grows s t grows state a [] h = tt
met_grows s t grows state a (atom ∷ atoms) h = ((h.0.0, covers_grows s t grows atom.relation (cells_of a atom.terms) h.0.1), met_grows s t grows state a atoms h.1)

all_missed_grow : (s t : Sense) → Grows s t → (state : State) (a : Assignment) (atoms : List Atom) → AllByRecursion (IsMissed s state a) atoms → AllByRecursion (IsMissed t state a) atoms
all_missed_grow s t grows state a [] h = tt
all_missed_grow s t grows state a (atom ∷ atoms) h = ((h.0.0, covers_grows s t grows atom.relation (cells_of a atom.terms) h.0.1), all_missed_grow s t grows state a atoms h.1)

pub witnesses_grow : (s t : Sense) → Grows s t → (terms : List Term) (body : Body) (state : State) (rows : List Row) → AllByRecursion (IsWitness s terms body state) rows → AllByRecursion (IsWitness t terms body state) rows
witnesses_grow s t grows terms body state [] h = tt
witnesses_grow s t grows terms body state (row ∷ rows) h =
    ((h.0.0, h.0.1, met_grows s t grows state h.0.0 body.atoms h.0.2, h.0.3, all_missed_grow s t grows state h.0.0 body.absents h.0.4), witnesses_grow s t grows terms body state rows h.1)

-- the walk below a key
pub IsDone : {S : Type 0} → WayView → Found S → List ℕ → ℕ → Type 0
IsDone way found keys k =
    Explored found.sense way.plan.guides (IsLeftOut way found) (IsCollected way.body way.plan way.terms found) (drop (length keys + 1) way.plan.levels) (length keys + 1) (with_key (at keys) (length keys) k)

pub IsDone-grows : {S : Type 0} → (way : WayView) (f g : Found S) → FoundGrows f g → (keys : List ℕ) (k : ℕ) → IsDone way f keys k → IsDone way g keys k
unfolding IsDone
IsDone-grows way f g grows keys k h = explored_grows way f g grows (drop (length keys + 1) way.plan.levels) (length keys + 1) (with_key (at keys) (length keys) k) h

pub explored_under : {S : Type 0} → (way : WayView) (found : Found S) (keys : List ℕ) (k : ℕ) → IsDone way found keys k
    → Explored found.sense way.plan.guides (IsLeftOut way found) (IsCollected way.body way.plan way.terms found) (drop (length keys + 1) way.plan.levels) (length keys + 1) (with_key (at keys) (length keys) k)
unfolding IsDone
explored_under way found keys k h = h

-- what the loop over a level's keys keeps, which began at the least from a number on
pub record IsUnderWay {S : Type 0} (way : WayView) (begun : Found S) (keys0 : List ℕ) (level : Level) (from : ℕ) (found : Found S) (key : ℕ) : Type 0 where
  pub grows : FoundGrows begun found
  pub right : IsRight way.body way.terms way.state found
  pub done : (k : ℕ) → is_cell k ≡ true → from ≤ k → k < key → IsSkipped way.body way.plan found.sense keys0 k ⊎ IsDone way found keys0 k
  pub at_key : key < 2 ^ 128 - 1 → (is_cell key ≡ true) × Fits level (at keys0) key

pub at_push_below : (keys : List ℕ) (k m : ℕ) → m < length keys → at (keys ++ k ∷ []) m ≡ at keys m
at_push_below [] k m h = absurd (omega arith)
at_push_below (x ∷ keys) k zero h = refl
at_push_below (x ∷ keys) k (suc m) h = at_push_below keys k m (omega arith)

pub at_push_last : (keys : List ℕ) (k : ℕ) → at (keys ++ k ∷ []) (length keys) ≡ k
at_push_last [] k = refl
at_push_last (x ∷ keys) k = at_push_last keys k

at_push_past : (keys : List ℕ) (k m : ℕ) → length keys < m → at (keys ++ k ∷ []) m ≡ at keys m
at_push_past [] k zero h = absurd (omega arith)
at_push_past [] k (suc m) h = refl
at_push_past (x ∷ keys) k zero h = absurd (omega arith)
at_push_past (x ∷ keys) k (suc m) h = at_push_past keys k m (omega arith)

pub length_push : (keys : List ℕ) (k : ℕ) → length (keys ++ k ∷ []) ≡ length keys + 1
length_push [] k = refl
length_push (x ∷ keys) k = let e = length_push keys k in omega arith

pub at_push : (keys : List ℕ) (k : ℕ) → at (keys ++ k ∷ []) ≡ with_key (at keys) (length keys) k
at_push keys k =
    let each = λ (m : ℕ). elim (cases_order m (length keys)) as (λ w. at (keys ++ k ∷ []) m ≡ with_key (at keys) (length keys) k m) [
      | inl e ↦ rw (e, eq-eqb (length keys) (length keys) refl) (at_push_last keys k)
      | inr r ↦ elim r [
        | inl lt ↦ let no : (m == length keys) ≡ false = ne_eqb m (length keys) (λ e. omega arith) in rw no (at_push_below keys k m lt)
        | inr gt ↦ let no : (m == length keys) ≡ false = ne_eqb m (length keys) (λ e. omega arith) in rw no (at_push_past keys k m gt)
      ]
    ] in
    λ i. λ m. each m i

pub IsDone-of_child : {S : Type 0} → (way : WayView) (found : Found S) (keys : List ℕ) (k : ℕ) → IsExploredBelow way found (keys ++ k ∷ []) → IsDone way found keys k
unfolding IsDone
IsDone-of_child way found keys k h =
    let deeper = subst (λ n. Explored found.sense way.plan.guides (IsLeftOut way found) (IsCollected way.body way.plan way.terms found) (drop n way.plan.levels) n (at (keys ++ k ∷ []))) (length_push keys k) h in
    subst (λ ks. Explored found.sense way.plan.guides (IsLeftOut way found) (IsCollected way.body way.plan way.terms found) (drop (length keys + 1) way.plan.levels) (length keys + 1) ks) (at_push keys k) deeper

pub level_at : (body : Body) (all levels : List Level) (l i : ℕ) (level : Level) → AreLevelsFrom body all l levels → slice_get levels i ≡ Some level → IsLevelOf body all (l + i) level
level_at body all [] l i level are e = cc
level_at body all (x ∷ levels) l zero level are e = let same : x ≡ level = cc in rw add-zero (subst (IsLevelOf body all l) same are.0)
level_at body all (x ∷ levels) l (suc i) level are e = subst (λ n. IsLevelOf body all n level) (let s : (l + 1) + i ≡ l + suc i = omega arith in s) (level_at body all levels (l + 1) i level are.1 e)

ties_kept : (keys : List ℕ) (k l x : ℕ) (Q : ℕ → Type 0) (ties : List ℕ) → l ≤ length keys → AllByRecursion (λ m. (m < l) × Q m) ties → AllByRecursion (λ m. at keys m ≡ x) ties → AllByRecursion (λ m. at (keys ++ k ∷ []) m ≡ x) ties
ties_kept keys k l x Q [] le are h = tt
ties_kept keys k l x Q (m ∷ ties) le are h = (at_push_below keys k m (let a : m < l = are.0.0 in omega arith) ∙ h.0, ties_kept keys k l x Q ties le are.1 h.1)

All_push : {X : Type 0} (P : X → Type 0) (xs : List X) (x : X) → AllByRecursion P xs → P x → AllByRecursion P (xs ++ x ∷ [])
All_push P [] x h p = (p, tt)
All_push P (y ∷ xs) x h p = (h.0, All_push P xs x h.1 p)

-- one key deeper
pub IsReached-child : (body : Body) (plan : Plan) (s t : Sense) (keys : List ℕ) (k : ℕ) (level : Level) → IsPlanOf body plan → IsReached plan s keys → slice_get plan.levels (length keys) ≡ Some level → length keys < length plan.levels → is_cell k ≡ true → Fits level (at keys) k → HitsAbove t plan.guides (keys ++ k ∷ []) → IsReached plan t (keys ++ k ∷ [])
IsReached-child body plan s t keys k level of_body reached here deeper cell fits hits = record {
  within = rw (length_push keys k) (omega arith);
  cells = All_push (λ x. is_cell x ≡ true) keys k reached.cells cell;
  fit = λ l lv below is.
      elim (cases_order l (length keys)) [
        | inl e ↦
            let same : lv ≡ level = let q : slice_get plan.levels l ≡ Some level = ap (slice_get plan.levels) e ∙ here in cc in
            let is_level = level_at body plan.levels plan.levels 0 (length keys) level of_body.levels here in
            let last : at (keys ++ k ∷ []) l ≡ k = ap (at (keys ++ k ∷ [])) e ∙ at_push_last keys k in
            subst (λ (w : Level). Fits w (at (keys ++ k ∷ [])) (at (keys ++ k ∷ []) l)) (sym same)
            (subst (Fits level (at (keys ++ k ∷ []))) (sym last)
            (fits.0, ties_kept keys k (0 + length keys) k (λ m. term_at plan.levels m ≡ level.term) level.ties (omega arith) is_level.ties fits.1))
        | inr r ↦ elim r [
          | inl lt ↦
              let before = reached.fit l lv lt is in
              let is_level = level_at body plan.levels plan.levels 0 l lv of_body.levels is in
              subst (Fits lv (at (keys ++ k ∷ []))) (sym (at_push_below keys k l lt))
              (before.0, ties_kept keys k (0 + l) (at keys l) (λ m. term_at plan.levels m ≡ lv.term) lv.ties (omega arith) is_level.ties before.1)
          | inr gt ↦ let n = length_push keys k in absurd (omega arith)
        ]
      ];
  hits = hits;
}

pub drop_at : (levels : List Level) (n : ℕ) (level : Level) → slice_get levels n ≡ Some level → drop n levels ≡ level ∷ drop (n + 1) levels
drop_at [] n level e = cc
drop_at (x ∷ levels) zero level e = let same : x ≡ level = cc in ap (λ w. w ∷ levels) same
drop_at (x ∷ levels) (suc n) level e = drop_at levels n level e ∙ (let s : suc (n + 1) ≡ suc n + 1 = omega arith in ap (λ m. level ∷ drop m (x ∷ levels)) s)

-- the loop begins
pub IsUnderWay-begun : {S : Type 0} → (way : WayView) (begun : Found S) (keys : List ℕ) (level : Level) (from : ℕ) (sense : Sense) (key : ℕ) → IsRight way.body way.terms way.state begun → StandsAt way.body way.plan way.state begun.sense sense keys level from key → IsUnderWay way begun keys level from (record { sense = sense; rows = begun.rows }) key
IsUnderWay-begun way begun keys level from sense key right stands = record {
  grows = record { sense = stands.grows; rows = λ row h. h };
  right = record { tight = stands.tight; answers = witnesses_grow begun.sense sense stands.grows way.terms way.body way.state begun.rows right.answers };
  done = λ k cell le lt. inl (stands.skipped k cell le lt);
  at_key = stands.found;
}

-- one key was explored, and the level went to its next
pub IsUnderWay-more : {S : Type 0} → (way : WayView) (begun f h g : Found S) (keys0 : List ℕ) (level : Level) (from key : ℕ) (sense : Sense) (key' : ℕ) → IsUnderWay way begun keys0 level from f key → FoundGrows f h → FoundGrows h g → IsRight way.body way.terms way.state g → IsExploredBelow way g (keys0 ++ key ∷ []) → StandsAt way.body way.plan way.state g.sense sense keys0 level (key + 1) key' → IsUnderWay way begun keys0 level from (record { sense = sense; rows = g.rows }) key'
IsUnderWay-more way begun f h g keys0 level from key sense key' so first second right explored stands =
    let last : FoundGrows g (record { sense = sense; rows = g.rows }) = record { sense = stands.grows; rows = λ row r. r } in
    let whole : FoundGrows f (record { sense = sense; rows = g.rows }) = FoundGrows-chain f h (record { sense = sense; rows = g.rows }) first (FoundGrows-chain h g (record { sense = sense; rows = g.rows }) second last) in
    record {
      grows = FoundGrows-chain begun f (record { sense = sense; rows = g.rows }) so.grows whole;
      right = record { tight = stands.tight; answers = witnesses_grow g.sense sense stands.grows way.terms way.body way.state g.rows right.answers };
      done = λ k cell le lt.
          elim (cases_order k key) [
            | inl e ↦ inr (IsDone-grows way g (record { sense = sense; rows = g.rows }) last keys0 k
                (subst (λ n. IsDone way g keys0 n) (sym e) (IsDone-of_child way g keys0 key explored)))
            | inr r ↦ elim r [
              | inl below ↦ elim (so.done k cell le below) [
                | inl skipped ↦ inl (IsSkipped-grows way.body way.plan f.sense sense whole.sense keys0 k skipped)
                | inr done ↦ inr (IsDone-grows way f (record { sense = sense; rows = g.rows }) whole keys0 k done)
              ]
              | inr above ↦ inl (stands.skipped k cell (omega arith) lt)
            ]
          ];
      at_key = stands.found;
    }

-- all keys of the level are done
pub IsExploredBelow-all : {S : Type 0} → (way : WayView) (begun found : Found S) (keys0 : List ℕ) (level : Level) (key : ℕ) → IsUnderWay way begun keys0 level 0 found key → slice_get way.plan.levels (length keys0) ≡ Some level → 2 ^ 128 - 1 ≤ key → IsExploredBelow way found keys0
IsExploredBelow-all way begun found keys0 level key so here ended =
    rw (drop_at way.plan.levels (length keys0) level here) (λ k cell.
    let small : k < 2 ^ 120 = ltb-true k (2 ^ 120) (and_parts (nat_lt 0 k) (nat_lt k (2 ^ 120)) cell).1 in
    elim (so.done k cell (omega arith) (omega arith)) [
      | inl skipped ↦ elim skipped [ inl p ↦ inl p | inr hopeless ↦ inr (inl (inl hopeless)) ]
      | inr done ↦ inr (inr (unfold IsDone in done))
    ])

-- a level below the keys
drop_more : (levels : List Level) (n : ℕ) → n < length levels → (level : Level) × (rest : List Level) × (drop n levels ≡ level ∷ rest)
drop_more [] n lt = absurd (omega arith)
drop_more (level ∷ levels) zero lt = (level, levels, refl)
drop_more (level ∷ levels) (suc n) lt = drop_more levels n (omega arith)

-- all keys of the level are left out
left_below : {S : Type 0} → (way : WayView) (found : Found S) (keys : List ℕ) → length keys < length way.plan.levels → ((k : ℕ) → IsLeftOut way found (length keys + 1) (with_key (at keys) (length keys) k)) → IsExploredBelow way found keys
left_below way found keys deeper out =
    let more = drop_more way.plan.levels (length keys) deeper in
    rw more.2 (λ k cell. inr (inl (out k)))

-- nothing holds below the keys
pub explored_hopeless : {S : Type 0} → (way : WayView) (found : Found S) (keys : List ℕ) → length keys < length way.plan.levels → IsHopeless way.body way.plan.levels (length keys) (at keys) → IsExploredBelow way found keys
explored_hopeless way found keys deeper hopeless =
    left_below way found keys deeper (λ k. inl (hopeless_under way.body way.plan.levels (length keys) (at keys) k hopeless))

-- all that is below some of the keys is there, also with more keys
found_under : (way : WayView) (rows : List Row) (n l : ℕ) (few more : Keys) → n ≤ l → AgreeBelow n few more → AreAllFound way rows n few → AreAllFound way rows l more
found_under way rows n l few more fewer same all a agree = all a (λ m lt. same m lt ∙ agree m (omega arith))

-- all that a walk which ends early would find below some of the keys was found
pub explored_all : {S : Type 0} → (way : WayView) (found : Found S) (keys : List ℕ) → length keys < length way.plan.levels → way.wanted ≤ length keys → EndsEarly way → AreAllFound way found.rows way.wanted (at keys) → IsExploredBelow way found keys
explored_all way found keys deeper within early all =
    left_below way found keys deeper (λ k.
    inr (early, found_under way found.rows way.wanted (length keys + 1) (at keys) (with_key (at keys) (length keys) k) (omega (arith, within)) (λ m lt. sym (with_key_before (at keys) (length keys) k m (omega (arith, lt, within)))) all))

fit_from : (rest : List Level) (l : ℕ) (keys : Keys) → ((i : ℕ) (level : Level) → slice_get rest i ≡ Some level → Fits level keys (keys (l + i))) → FitFrom l rest keys
fit_from [] l keys f = tt
fit_from (level ∷ rest) l keys f = (
  (let h = f 0 level refl in rw add-zero at h),
  fit_from rest (l + 1) keys (λ i lv e. subst (λ n. Fits lv keys (keys n)) (let s : l + suc i ≡ (l + 1) + i = omega arith in s) (f (suc i) lv e)),
)

pub slice_get_below : {X : Type 0} (xs : List X) (i : ℕ) (x : X) → slice_get xs i ≡ Some x → i < length xs
slice_get_below [] i x e = cc
slice_get_below (y ∷ xs) zero x e = omega arith
slice_get_below (y ∷ xs) (suc i) x e = let h = slice_get_below xs i x e in omega arith

leaf_hits : (levels : List Level) (sense : Sense) (keys : List ℕ) → length keys ≡ length levels → (atoms : List Atom) (guides : List Guide) → AllZip (IsGuideOf levels) atoms guides → HitsAbove sense guides keys → AreHits sense guides (at keys)
leaf_hits levels sense keys e [] [] z h = tt
leaf_hits levels sense keys e [] (guide ∷ guides) z h = absurd z
leaf_hits levels sense keys e (atom ∷ atoms) [] z h = absurd z
leaf_hits levels sense keys e (atom ∷ atoms) (guide ∷ guides) z h =
    (h.0 (subst (λ n. AllByRecursion (λ l. l < n) guide.places) (sym e) z.0.places), leaf_hits levels sense keys e atoms guides z.1 h.1)

hits_there : (state : State) (sense : Sense) (tight : IsTight sense state) (keys : Keys) (guides : List Guide) → AreHits sense guides keys → AllByRecursion (λ (guide : Guide). Has state guide.relation (map keys guide.places)) guides
hits_there state sense tight keys [] h = tt
hits_there state sense tight keys (guide ∷ guides) h =
    (All_at (λ (hit : Hit). Has state hit.relation hit.row) sense.hits (hit_of keys guide) tight.hits h.0, hits_there state sense tight keys guides h.1)

drop_all : (levels : List Level) (n : ℕ) → n ≡ length levels → drop n levels ≡ []
drop_all [] zero e = refl
drop_all [] (suc n) e = refl
drop_all (x ∷ levels) zero e = absurd (omega arith)
drop_all (x ∷ levels) (suc n) e = drop_all levels n (omega arith)

all_at_cell : (keys : List ℕ) (l : ℕ) → l < length keys → AllByRecursion (λ k. is_cell k ≡ true) keys → is_cell (at keys l) ≡ true
all_at_cell [] l lt h = absurd (omega arith)
all_at_cell (k ∷ keys) zero lt h = h.0
all_at_cell (k ∷ keys) (suc l) lt h = all_at_cell keys l (omega arith) h.1

above_grows : (s t : Sense) → Grows s t → (guides : List Guide) (keys : List ℕ) → HitsAbove s guides keys → HitsAbove t guides keys
above_grows s t grows [] keys h = tt
above_grows s t grows (guide ∷ guides) keys h = ((λ above. grows.hits (hit_of (at keys) guide) (h.0 above)), above_grows s t grows guides keys h.1)

pub IsReached-grows : (plan : Plan) (s t : Sense) → Grows s t → (keys : List ℕ) → IsReached plan s keys → IsReached plan t keys
IsReached-grows plan s t grows keys h = record { within = h.within; cells = h.cells; fit = h.fit; hits = above_grows s t grows plan.guides keys h.hits }

-- at a leaf
module _ (way : WayView) (keys : List ℕ) (of_body : IsPlanOf way.body way.plan) (full : length keys ≡ length way.plan.levels) where
  leaf_fits : (sense : Sense) → IsReached way.plan sense keys → FitFrom 0 way.plan.levels (at keys)
  leaf_fits sense reached =
      fit_from way.plan.levels 0 (at keys) (λ i level at_i. let lt : i < length way.plan.levels = slice_get_below way.plan.levels i level at_i in subst (λ n. Fits level (at keys) (at keys n)) (let s : i ≡ 0 + i = omega arith in s) (reached.fit i level (omega arith) at_i))

  -- only the tests are left
  pub leaf_holds : (sense : Sense) → IsReached way.plan sense keys → list_all (passes (leaf_assignment way.body way.plan.levels (at keys))) way.body.tests ≡ holds (leaf_assignment way.body way.plan.levels (at keys)) way.body
  leaf_holds sense reached = holds_at_leaf way.body way.plan of_body (at keys) (leaf_fits sense reached) (λ l lt. all_at_cell keys l (omega arith) reached.cells)

  -- its terms have the keys
  pub leaf_terms : (sense : Sense) → IsReached way.plan sense keys → (l : ℕ) → l < length way.plan.levels → cell_of (leaf_assignment way.body way.plan.levels (at keys)) (term_at way.plan.levels l) ≡ at keys l
  leaf_terms sense reached = term_fits way.body way.plan of_body (at keys) (leaf_fits sense reached)

  leaf_collected : {S : Type 0} → (found : Found S) → IsReached way.plan found.sense keys
      → (holds (leaf_assignment way.body way.plan.levels (at keys)) way.body ≡ true → (IsIn (cells_of (leaf_assignment way.body way.plan.levels (at keys)) way.terms) found.rows × AllByRecursion (IsGapped found.sense (leaf_assignment way.body way.plan.levels (at keys))) way.body.absents) ⊎ AnyByRecursion (IsHitOf found.sense (leaf_assignment way.body way.plan.levels (at keys))) way.body.absents) → IsExploredBelow way found keys
  leaf_collected found reached answer =
      rw (drop_all way.plan.levels (length keys) full) (record { hits = leaf_hits way.plan.levels found.sense keys full way.body.atoms way.plan.guides of_body.guides reached.hits; answer = answer })

  -- the tests fail
  pub leaf_without : {S : Type 0} → (found : Found S) → IsReached way.plan found.sense keys → list_all (passes (leaf_assignment way.body way.plan.levels (at keys))) way.body.tests ≡ false → IsExploredBelow way found keys
  leaf_without found reached fails = leaf_collected found reached (λ held. absurd (true≢false (sym held ∙ (sym (leaf_holds found.sense reached) ∙ fails))))

  -- an absent row is there
  pub leaf_refused : {S : Type 0} → (found new : Found S) → IsReached way.plan found.sense keys → Grows found.sense new.sense → AnyByRecursion (IsHitOf new.sense (leaf_assignment way.body way.plan.levels (at keys))) way.body.absents → IsExploredBelow way new keys
  leaf_refused found new reached grows hit = leaf_collected new (IsReached-grows way.plan found.sense new.sense grows keys reached) (λ held. inr hit)

  -- the tests hold, and all absent rows are absent
  pub leaf_witness : {S : Type 0} → (found : Found S) (sense : Sense) → IsReached way.plan found.sense keys → list_all (passes (leaf_assignment way.body way.plan.levels (at keys))) way.body.tests ≡ true → Grows found.sense sense → IsTight sense way.state → AllByRecursion (IsGapped sense (leaf_assignment way.body way.plan.levels (at keys))) way.body.absents
      → IsWitness sense way.terms way.body way.state (cells_of (leaf_assignment way.body way.plan.levels (at keys)) way.terms)
  leaf_witness found sense reached passed grows tight gapped =
      let there : IsReached way.plan sense keys = IsReached-grows way.plan found.sense sense grows keys reached in
      IsWitness-at_leaf way.body way.plan of_body way.terms way.state sense tight (at keys) (leaf_fits found.sense reached)
      (leaf_hits way.plan.levels sense keys full way.body.atoms way.plan.guides of_body.guides there.hits) (sym (leaf_holds found.sense reached) ∙ passed) gapped

  -- and its row is among the rows, of which no other is new
  pub leaf_with : {S : Type 0} → (found new : Found S) → IsReached way.plan found.sense keys → IsRight way.body way.terms way.state found → list_all (passes (leaf_assignment way.body way.plan.levels (at keys))) way.body.tests ≡ true
      → Grows found.sense new.sense → IsTight new.sense way.state → AllByRecursion (IsGapped new.sense (leaf_assignment way.body way.plan.levels (at keys))) way.body.absents
      → IsIn (cells_of (leaf_assignment way.body way.plan.levels (at keys)) way.terms) new.rows → ((row : Row) → IsIn row new.rows → IsIn row found.rows ⊎ (row ≡ cells_of (leaf_assignment way.body way.plan.levels (at keys)) way.terms))
      → IsRight way.body way.terms way.state new × IsExploredBelow way new keys × AreFoundUnder way.terms way.body way.plan way.state keys found new
  leaf_with found new reached right passed grows tight gapped added each =
      let leaf : Assignment = leaf_assignment way.body way.plan.levels (at keys) in
      let row : Row = cells_of leaf way.terms in
      let held : holds leaf way.body ≡ true = sym (leaf_holds found.sense reached) ∙ passed in
      let fit : FitFrom 0 way.plan.levels (at keys) = leaf_fits found.sense reached in
      let there : IsReached way.plan new.sense keys = IsReached-grows way.plan found.sense new.sense grows keys reached in
      let hits = leaf_hits way.plan.levels new.sense keys full way.body.atoms way.plan.guides of_body.guides there.hits in
      let stands = stands_at way.body way.plan of_body (at keys) way.state fit way.body.atoms way.plan.guides of_body.guides (hits_there way.state new.sense tight (at keys) way.plan.guides hits) in
      let none : Lacks leaf way.body.absents way.state = Lacks-from_missed new.sense way.state leaf way.body.absents (gaps_missed new.sense way.state tight leaf way.body.absents gapped) in
      let answer : IsWitness new.sense way.terms way.body way.state row = leaf_witness found new.sense reached passed grows tight gapped in
      let under : IsAnswerUnder way.terms way.body way.plan way.state keys row = (leaf, held, stands, refl, λ l lt. leaf_terms found.sense reached l (omega (arith, full)), none) in
      let old : AllByRecursion (IsWitness new.sense way.terms way.body way.state) found.rows = witnesses_grow found.sense new.sense grows way.terms way.body way.state found.rows right.answers in (
        record {
          tight = tight;
          answers = All_of (IsWitness new.sense way.terms way.body way.state) new.rows (λ r here.
              elim (each r here) [
                | inl before ↦ All_at (IsWitness new.sense way.terms way.body way.state) found.rows r old before
                | inr same ↦ subst (IsWitness new.sense way.terms way.body way.state) (sym same) answer
              ]);
        },
        leaf_collected new there (λ h. inl (added, gapped)),
        λ r here. elim (each r here) [ inl before ↦ inl before | inr same ↦ inr (subst (IsAnswerUnder way.terms way.body way.plan way.state keys) (sym same) under) ],
      )

-- ---- under the keys

pub under_shorter : (terms : List Term) (body : Body) (plan : Plan) (state : State) (keys : List ℕ) (k : ℕ) (row : Row) → IsAnswerUnder terms body plan state (keys ++ k ∷ []) row → IsAnswerUnder terms body plan state keys row
under_shorter terms body plan state keys k row u =
    (u.0, u.1, u.2, u.3, λ l lt. u.4 l (let n = length_push keys k in omega arith) ∙ at_push_below keys k l lt, u.5)

-- one key was explored
pub under_more : {S : Type 0} → (terms : List Term) (body : Body) (plan : Plan) (state : State) (keys pushed : List ℕ) (k : ℕ) (begun f g : Found S) → pushed ≡ keys ++ k ∷ [] → AreFoundUnder terms body plan state keys begun f → AreFoundUnder terms body plan state pushed f g → AreFoundUnder terms body plan state keys begun g
under_more terms body plan state keys pushed k begun f g is first second row there =
    elim (second row there) [
      | inl old ↦ first row old
      | inr new ↦ inr (under_shorter terms body plan state keys k row (subst (λ ks. IsAnswerUnder terms body plan state ks row) is new))
    ]

pub slice_get_is : {X : Type 0} (xs : List X) (i : ℕ) (x : X) → i < length xs → x ≡ get_or xs i x → slice_get xs i ≡ Some x
slice_get_is [] i x lt e = absurd (omega arith)
slice_get_is (y ∷ xs) zero x lt e = ap Some (sym e)
slice_get_is (y ∷ xs) (suc i) x lt e = slice_get_is xs i x (omega arith) e

take_front : (keys : List ℕ) (k : ℕ) → take (length keys) (keys ++ k ∷ []) ≡ keys
take_front [] k = refl
take_front (x ∷ keys) k = ap (λ w. x ∷ w) (take_front keys k)

-- a pop after a push
pub popped : (keys : List ℕ) (k : ℕ) (full rest : List ℕ) → full ≡ keys ++ k ∷ [] → rest ≡ take (length full - 1) full → rest ≡ keys
popped keys k full rest e f =
    let n : length full - 1 ≡ length keys = let l = ap length e ∙ length_push keys k in omega arith in
    f ∙ (ap (λ m. take m full) n ∙ (ap (take (length keys)) e ∙ take_front keys k))

pub no_hits : (sense : Sense) (guides : List Guide) → AllByRecursion (λ (guide : Guide). 0 < length guide.places) guides → HitsAbove sense guides []
no_hits sense [] h = tt
no_hits sense (guide ∷ guides) h = ((λ above. absurd (none_above guide.places h.0 above)), no_hits sense guides h.1)
  where
    none_above : (places : List ℕ) → 0 < length places → AllByRecursion (λ l. l < 0) places → ⊥
    none_above [] lt above = omega arith
    none_above (l ∷ places) lt above = let k = above.0 in omega arith

-- a walk begins with nothing found
pub IsReached-none : (plan : Plan) (sense : Sense) → AllByRecursion (λ (guide : Guide). 0 < length guide.places) plan.guides → IsReached plan sense []
IsReached-none plan sense h = record { within = omega arith; cells = tt; fit = λ l level below is. absurd (omega arith); hits = no_hits sense plan.guides h }

-- what a whole walk has found
pub answers_found : {S : Type 0} → (way : WayView) (found : Found S) → IsPlanOf way.body way.plan → AreTestsBound way.body → are_bound way.body way.terms ≡ true → IsRight way.body way.terms way.state found → IsExploredBelow way found [] → ascending found.rows ≡ answers way.terms way.body way.state
answers_found way found of_body whole heads right explored =
    answers_are way of_body found whole heads right.tight (at []) explored (λ row there. IsAnswer-from_witness found.sense way.terms way.body way.state row (All_at (IsWitness found.sense way.terms way.body way.state) found.rows row right.answers there))

-- and, where it doesn't end early, what its sense certifies
pub found_all : {S : Type 0} → (way : WayView) (found : Found S) → (EndsEarly way → ⊥) → IsPlanOf way.body way.plan → AreTestsBound way.body → are_bound way.body way.terms ≡ true → IsRight way.body way.terms way.state found → IsExploredBelow way found [] → (ascending found.rows ≡ answers way.terms way.body way.state) × Certifies found.sense way.body way.state
found_all way found late of_body whole heads right explored = (
  answers_found way found of_body whole heads right explored,
  Certifies-from_explored way.body way.plan of_body found.sense way.state (at []) whole right.tight (explored_settled way found late way.plan.levels 0 (at []) explored),
)
