-- What a leaf of the walk gives: the assignment of its keys, and the answers.
use Rattle.std.specs.Prelude.{◌≡◌, ℕ, ◌+◌, ◌<◌, ◌≤◌, true, false, ◌==◌, ◌&&◌, List, [], ◌∷◌, ◌++◌, map, length, Option, Some, ◌⊎◌, unwrap_or, option_and_then}
use Rattle.std.specs.List.{list_all, AllByRecursion, AllZip}
use Rattle.std.proofs.Common.{refl, sym, ap, ◌∙◌, subst, inl, inr, cond, arith}
use Rattle.std.proofs.lemmas.Bool.{and_parts, and_from, or_cases, or_left, or_right, cases_eq, true≢false}
use Rattle.lt_model.specs.declared.normal.Term.{Term}
use Rattle.lt_model.specs.declared.normal.Term.TheVariants.{Var, Cell}
use Rattle.lt_model.specs.declared.normal.Atom.{Atom}
use Rattle.lt_model.specs.declared.syntax.Op.TheVariants.{Eq}
use Rattle.lt_model.specs.declared.normal.Test.{Test}
use Rattle.lt_model.specs.declared.normal.Test.TheVariants.{Cmp, Sum}
use Rattle.lt_model.specs.declared.normal.Body.{Body}
use Rattle.lt_face.specs.Lists.{IsIn, AnyByRecursion}
use Rattle.lt_face.specs.State.{Row, State}
use Rattle.lt_model.specs.Answers.{rows_under, Assignment, Values, cell_of, cells_of, passes, holds, or_else, term_value, give_value, give, give_all, terms_of, answers}
use Rattle.lt_model.specs.Cells.{is_cell, sum_of}
use Rattle.lt_model.specs.Bound.{is_var, stands, is_bound, are_bound}
use Rattle.lt_query.specs.Answering.{AreTestsBound}
use Rattle.lt_sense.specs.Kept.{Sense}
use Rattle.lt_sense.specs.declared.covering.Hit.{Hit}
use Rattle.lt_face.specs.State.{Has}
use Rattle.lt_query.specs.Answering.{Stands, IsAnswer}
use Rattle.lt_join.specs.Certify.{Certifies, IsWitness, IsMet, IsMissed, IsGapped}
use Rattle.lt_sense.specs.Sense.{covers, IsTight}
use Rattle.lt_query.specs.declared.plans.Level.{Level}
use Rattle.lt_query.specs.declared.plans.Guide.{Guide}
use Rattle.lt_query.specs.declared.plans.Plan.{Plan}
use Rattle.lt_query.specs.Plan.{Keys, term_at, keys_under, IsGuideOf, IsLevelOf, IsDetermined, AreLevelsFrom, IsPlanOf}
use Rattle.lt_join.specs.Explored.{AgreeBelow, Fits, FitFrom, IsHopeless, Explored, hit_of, AreHits}
use Rattle.lt_query.proofs.Standing.{is_var-true, is_var_itself}
use Rattle.lt_query.proofs.Given.{Agrees, given_all, cells_same, holds_same, IsIn-answers_of, IsAnswer-from_answers}
use Rattle.lt_join.proofs.Repair.{All_at, not_missed, not_met, IsAscending-answers, Stands-from_met, Lacks-from_missed, hit_row_covered}
use Rattle.lt_query.proofs.Ascending.{IsAscending-ascending, IsIn-ascending, IsIn-ascending_from, ascending_same}
use Rattle.lt_model.specs.Answers.{ascending}
use Rattle.lt_join.specs.declared.Found.{Found}
use Rattle.lt_join.specs.Walked.{value_from, leaf_assignment, IsCollected, IsSettled}
use Rattle.lt_join.proofs.Looked.{gaps_missed, hits_met, gaps_same, hits_same}
use Rattle.lt_join.specs.Way.{WayView, AreAllFound, IsLeftOut}
use Rattle.lt_join.proofs.Walks.{followed, all_met}

pub IsAnswer-from_witness : (sense : Sense) (terms : List Term) (body : Body) (state : State) (row : Row) → IsWitness sense terms body state row → IsAnswer terms body state row
IsAnswer-from_witness sense terms body state row w = (w.0, w.1, Stands-from_met sense state w.0 body.atoms w.2, w.3, Lacks-from_missed sense state w.0 body.absents w.4)

-- where a term of the list stands
place_of : (levels : List Level) (places : List ℕ) (v n : ℕ) → AllByRecursion (λ l. l < n) places → stands (map (term_at levels) places) v ≡ true → (l : ℕ) × (l < n) × (term_at levels l ≡ Var v)
place_of levels [] v n h s = cc
place_of levels (l ∷ places) v n h s =
    elim (or_cases (is_var v (term_at levels l)) (stands (map (term_at levels) places) v) s)
    [ inl e ↦ (l, h.0, is_var-true v (term_at levels l) e) | inr r ↦ place_of levels places v n h.1 r ]

stands_cases : (xs ys : List Term) (v : ℕ) → stands (xs ++ ys) v ≡ true → (stands xs v ≡ true) ⊎ (stands ys v ≡ true)
stands_cases [] ys v h = inr h
stands_cases (x ∷ xs) ys v h =
    elim (or_cases (is_var v x) (stands (xs ++ ys) v) h) [
      | inl e ↦ inl (or_left (is_var v x) (stands xs v) e)
      | inr r ↦ elim (stands_cases xs ys v r) [ inl k ↦ inl (or_right (is_var v x) (stands xs v) k) | inr k ↦ inr k ]
    ]

-- each variable of an atom has a level
pub level_of : (levels : List Level) (v : ℕ) (atoms : List Atom) (guides : List Guide) → AllZip (IsGuideOf levels) atoms guides → stands (terms_of atoms) v ≡ true → (l : ℕ) × (l < length levels) × (term_at levels l ≡ Var v)
level_of levels v [] [] z h = cc
level_of levels v [] (guide ∷ guides) z h = absurd z
level_of levels v (atom ∷ atoms) [] z h = absurd z
level_of levels v (atom ∷ atoms) (guide ∷ guides) z h =
    elim (stands_cases atom.terms (terms_of atoms) v h) [
      | inl k ↦ place_of levels guide.places v (length levels) z.0.places (subst (λ ts. stands ts v ≡ true) z.0.terms k)
      | inr k ↦ level_of levels v atoms guides z.1 k
    ]

module _ (body : Body) (all : List Level) (keys : Keys) where
  value_from_sound : (a : Assignment) (levels : List Level) (l : ℕ) → AreLevelsFrom body all l levels → AgreeBelow (l + length levels) keys (keys_under a all) → (v y : ℕ) → value_from levels l keys v ≡ Some y → y ≡ a v
  value_from_sound a [] l are agree v y e = cc
  value_from_sound a (level ∷ levels) l are agree v y e =
      elim (is_var v level.term) as (λ b. is_var v level.term ≡ b → cond b (Some (keys l)) (value_from levels (l + 1) keys v) ≡ Some y → y ≡ a v) [
        | true ↦ λ same e.
            let at : keys l ≡ cell_of a (term_at all l) = agree l (omega arith) in
            let term : cell_of a (term_at all l) ≡ a v = ap (cell_of a) (are.0.term ∙ is_var-true v level.term same) in
            let k = at ∙ term in cc
        | false ↦ λ other e. value_from_sound a levels (l + 1) are.1 (λ m lt. agree m (omega arith)) v y e
      ] refl e

  value_from_some : (levels : List Level) (l : ℕ) → AreLevelsFrom body all l levels → (v m : ℕ) → l ≤ m → m < l + length levels → term_at all m ≡ Var v → (y : ℕ) × (value_from levels l keys v ≡ Some y)
  value_from_some [] l are v m from below term = absurd (omega arith)
  value_from_some (level ∷ levels) l are v m from below term =
      elim (is_var v level.term) as (λ b. is_var v level.term ≡ b → (y : ℕ) × (cond b (Some (keys l)) (value_from levels (l + 1) keys v) ≡ Some y)) [
        | true ↦ λ same. (keys l, refl)
        | false ↦ λ other.
            let later : l < m = elim (cases_eq l m) [
              | inl e ↦ let t : level.term ≡ Var v = sym are.0.term ∙ (ap (term_at all) e ∙ term) in
                  let yes : is_var v level.term ≡ true = rw t (is_var_itself v) in cc
              | inr ne ↦ omega arith
            ] in
            value_from_some levels (l + 1) are.1 v m (omega arith) (omega arith) term
      ] refl

  -- a level with its key, which fits
  fit_at : (levels : List Level) (l : ℕ) → AreLevelsFrom body all l levels → FitFrom l levels keys → (m : ℕ) → l ≤ m → m < l + length levels → (level : Level) × IsLevelOf body all m level × Fits level keys (keys m)
  fit_at [] l are fit m from below = absurd (omega arith)
  fit_at (level ∷ levels) l are fit m from below =
      elim (cases_eq l m) [
        | inl e ↦ (level, subst (λ i. IsLevelOf body all i level) e are.0, subst (λ i. Fits level keys (keys i)) e fit.0)
        | inr ne ↦ fit_at levels (l + 1) are.1 fit.1 m (omega arith) (omega arith)
      ]

  -- where all keys fit, the first key of a variable is that of each of its levels
  value_from_fits : (levels : List Level) (l : ℕ) → AreLevelsFrom body all l levels → (v m : ℕ) (level_m : Level) → IsLevelOf body all m level_m → Fits level_m keys (keys m) → l ≤ m → m < l + length levels → term_at all m ≡ Var v → ((i : ℕ) → i < l → term_at all i ≡ Var v → ⊥) → value_from levels l keys v ≡ Some (keys m)
  value_from_fits [] l are v m level_m is_level fit from below term none = absurd (omega arith)
  value_from_fits (level ∷ levels) l are v m level_m is_level fit from below term none =
      elim (is_var v level.term) as (λ b. is_var v level.term ≡ b → cond b (Some (keys l)) (value_from levels (l + 1) keys v) ≡ Some (keys m)) [
        | true ↦ λ same. elim (cases_eq l m) [
          | inl e ↦ ap (λ i. Some (keys i)) e
          | inr ne ↦
              let determined : IsDetermined all m level_m (Var v) = subst (IsDetermined all m level_m) (sym is_level.term ∙ term) is_level.determined in
              let tied = determined l (omega arith) (are.0.term ∙ is_var-true v level.term same, none) in
              ap Some (All_at (λ i. keys i ≡ keys m) level_m.ties l fit.1 tied)
        ]
        | false ↦ λ other.
            let later : l < m = elim (cases_eq l m) [
              | inl e ↦ let t : level.term ≡ Var v = sym are.0.term ∙ (ap (term_at all) e ∙ term) in
                  let yes : is_var v level.term ≡ true = rw t (is_var_itself v) in cc
              | inr ne ↦ omega arith
            ] in
            value_from_fits levels (l + 1) are.1 v m level_m is_level fit (omega arith) (omega arith) term
            (λ i lt is. elim (cases_eq i l) [
              | inl e ↦ let t : level.term ≡ Var v = sym are.0.term ∙ (ap (term_at all) (sym e) ∙ is) in
                  let yes : is_var v level.term ≡ true = rw t (is_var_itself v) in absurd (true≢false (sym yes ∙ other))
              | inr ne ↦ none i (omega arith) is
            ])
      ] refl

-- a literal takes no value away
give_value_keeps : (values : Values) (v : ℕ) (x : Option ℕ) (u y : ℕ) → values u ≡ Some y → give_value values v x u ≡ Some y
give_value_keeps values v x u y e =
    elim (u == v) as (λ b. cond b (or_else (values u) x) (values u) ≡ Some y) [ true ↦ ap (λ o. or_else o x) e | false ↦ e ]

give_keeps : (values : Values) (test : Test) (u y : ℕ) → values u ≡ Some y → give values test u ≡ Some y
give_keeps values (Cmp (Var v) Eq right) u y e = give_value_keeps values v (term_value values right) u y e
give_keeps values (Sum v a minus b) u y e = give_value_keeps values v (option_and_then (λ x. option_and_then (λ y. sum_of minus x y) (term_value values b)) (term_value values a)) u y e
give_keeps values (Cmp left op right) u y e = e

give_all_keeps : (values : Values) (tests : List Test) (u y : ℕ) → values u ≡ Some y → give_all values tests u ≡ Some y
give_all_keeps values [] u y e = e
give_all_keeps values (test ∷ tests) u y e = give_all_keeps (give values test) tests u y (give_keeps values test u y e)

module _ (body : Body) (plan : Plan) (of_body : IsPlanOf body plan) where
  -- the keys of an assignment that holds give its values back
  pub leaf_same : (a : Assignment) (keys : Keys) → list_all (passes a) body.tests ≡ true → AgreeBelow (length plan.levels) keys (keys_under a plan.levels) → (v : ℕ) → is_bound body v ≡ true → leaf_assignment body plan.levels keys v ≡ a v
  leaf_same a keys held agree v known =
      let agree' : AgreeBelow (0 + length plan.levels) keys (keys_under a plan.levels) = λ m lt. agree m (omega arith) in
      let sound = value_from_sound body plan.levels keys a plan.levels 0 of_body.levels agree' in
      let first : Agrees (stands (terms_of body.atoms)) (value_from plan.levels 0 keys) a = record {
        sound = sound;
        told = λ u h.
            let level = level_of plan.levels u body.atoms plan.guides of_body.guides h in
            let some = value_from_some body plan.levels keys plan.levels 0 of_body.levels u level.0 (omega arith) (omega arith) level.2 in
            some.1 ∙ ap Some (sound u some.0 some.1);
      } in
      let last = given_all (stands (terms_of body.atoms)) (value_from plan.levels 0 keys) a body.tests first held in
      ap (λ o. unwrap_or o 0) (last.told v known)

  -- the term of a level has the level's key
  pub term_fits : (keys : Keys) → FitFrom 0 plan.levels keys → (l : ℕ) → l < length plan.levels → cell_of (leaf_assignment body plan.levels keys) (term_at plan.levels l) ≡ keys l
  term_fits keys fit l lt =
      let found = fit_at body plan.levels keys plan.levels 0 of_body.levels fit l (omega arith) (omega arith) in
      elim (term_at plan.levels l) as (λ t. term_at plan.levels l ≡ t → cell_of (leaf_assignment body plan.levels keys) t ≡ keys l) [
        | Var v ↦ λ e.
            let value = value_from_fits body plan.levels keys plan.levels 0 of_body.levels v l found.0 found.1 found.2 (omega arith) (omega arith) e (λ i lt is. absurd (omega arith)) in
            ap (λ o. unwrap_or o 0) (give_all_keeps (value_from plan.levels 0 keys) body.tests v (keys l) value)
        | Cell c ↦ λ e.
            let determined : IsDetermined plan.levels l found.0 (Cell c) = subst (IsDetermined plan.levels l found.0) (sym found.1.term ∙ e) found.1.determined in
            All_at (λ pin. pin ≡ keys l) found.0.pins c found.2.0 determined
      ] refl

  row_at : (keys : Keys) → FitFrom 0 plan.levels keys → (places : List ℕ) → AllByRecursion (λ l. l < length plan.levels) places → cells_of (leaf_assignment body plan.levels keys) (map (term_at plan.levels) places) ≡ map keys places
  row_at keys fit [] h = refl
  row_at keys fit (l ∷ places) h =
      let head = term_fits keys fit l h.0 in
      let tail = row_at keys fit places h.1 in cc

  cells_at : (keys : Keys) → ((l : ℕ) → l < length plan.levels → is_cell (keys l) ≡ true) → (places : List ℕ) → AllByRecursion (λ l. l < length plan.levels) places → list_all is_cell (map keys places) ≡ true
  cells_at keys cells [] h = refl
  cells_at keys cells (l ∷ places) h = and_from (is_cell (keys l)) (list_all is_cell (map keys places)) (cells l h.0) (cells_at keys cells places h.1)

  rows_at : (keys : Keys) → FitFrom 0 plan.levels keys → ((l : ℕ) → l < length plan.levels → is_cell (keys l) ≡ true) → (atoms : List Atom) (guides : List Guide) → AllZip (IsGuideOf plan.levels) atoms guides → list_all (λ row. list_all is_cell row) (rows_under (leaf_assignment body plan.levels keys) atoms) ≡ true
  rows_at keys fit cells [] [] z = refl
  rows_at keys fit cells [] (guide ∷ guides) z = absurd z
  rows_at keys fit cells (atom ∷ atoms) [] z = absurd z
  rows_at keys fit cells (atom ∷ atoms) (guide ∷ guides) z =
      let row : cells_of (leaf_assignment body plan.levels keys) atom.terms ≡ map keys guide.places = ap (cells_of (leaf_assignment body plan.levels keys)) z.0.terms ∙ row_at keys fit guide.places z.0.places in
      and_from (list_all is_cell (cells_of (leaf_assignment body plan.levels keys) atom.terms)) (list_all (λ row. list_all is_cell row) (rows_under (leaf_assignment body plan.levels keys) atoms))
      (ap (list_all is_cell) row ∙ cells_at keys cells guide.places z.0.places) (rows_at keys fit cells atoms guides z.1)

  -- at a leaf whose keys fit and are cells only the tests are left
  pub holds_at_leaf : (keys : Keys) → FitFrom 0 plan.levels keys → ((l : ℕ) → l < length plan.levels → is_cell (keys l) ≡ true) → list_all (passes (leaf_assignment body plan.levels keys)) body.tests ≡ holds (leaf_assignment body plan.levels keys) body
  holds_at_leaf keys fit cells = sym (ap (λ b. b && list_all (passes (leaf_assignment body plan.levels keys)) body.tests) (rows_at keys fit cells body.atoms plan.guides of_body.guides))

  pub stands_at : (keys : Keys) (state : State) → FitFrom 0 plan.levels keys → (atoms : List Atom) (guides : List Guide) → AllZip (IsGuideOf plan.levels) atoms guides → AllByRecursion (λ (guide : Guide). Has state guide.relation (map keys guide.places)) guides → Stands (leaf_assignment body plan.levels keys) atoms state
  stands_at keys state fit [] [] z h = tt
  stands_at keys state fit [] (guide ∷ guides) z h = absurd z
  stands_at keys state fit (atom ∷ atoms) [] z h = absurd z
  stands_at keys state fit (atom ∷ atoms) (guide ∷ guides) z h =
      let row : map keys guide.places ≡ cells_of (leaf_assignment body plan.levels keys) atom.terms = sym (ap (cells_of (leaf_assignment body plan.levels keys)) z.0.terms ∙ row_at keys fit guide.places z.0.places) in
      (subst (λ r. Has state r (cells_of (leaf_assignment body plan.levels keys) atom.terms)) z.0.relation (subst (Has state guide.relation) row h.0), stands_at keys state fit atoms guides z.1 h.1)

  met_at : (keys : Keys) (state : State) (sense : Sense) → IsTight sense state → FitFrom 0 plan.levels keys → (atoms : List Atom) (guides : List Guide) → AllZip (IsGuideOf plan.levels) atoms guides → AreHits sense guides keys → AllByRecursion (IsMet sense state (leaf_assignment body plan.levels keys)) atoms
  met_at keys state sense tight fit [] [] z h = tt
  met_at keys state sense tight fit [] (guide ∷ guides) z h = absurd z
  met_at keys state sense tight fit (atom ∷ atoms) [] z h = absurd z
  met_at keys state sense tight fit (atom ∷ atoms) (guide ∷ guides) z h =
      let row : map keys guide.places ≡ cells_of (leaf_assignment body plan.levels keys) atom.terms = sym (ap (cells_of (leaf_assignment body plan.levels keys)) z.0.terms ∙ row_at keys fit guide.places z.0.places) in
      let has : Has state guide.relation (map keys guide.places) = All_at (λ (hit : Hit). Has state hit.relation hit.row) sense.hits (hit_of keys guide) tight.hits h.0 in
      let covered : covers sense guide.relation (map keys guide.places) ≡ true = hit_row_covered sense (hit_of keys guide) h.0 in (
        (
          subst (λ r. Has state r (cells_of (leaf_assignment body plan.levels keys) atom.terms)) z.0.relation (subst (Has state guide.relation) row has),
          subst (λ r. covers sense r (cells_of (leaf_assignment body plan.levels keys) atom.terms) ≡ true) z.0.relation (subst (λ r. covers sense guide.relation r ≡ true) row covered),
        ),
        met_at keys state sense tight fit atoms guides z.1 h.1,
      )

  -- a leaf whose keys fit, whose rows are hits, whose tests hold and whose absent rows lie in gaps gives an answer
  pub IsWitness-at_leaf : (terms : List Term) (state : State) (sense : Sense) → IsTight sense state → (keys : Keys) → FitFrom 0 plan.levels keys → AreHits sense plan.guides keys → holds (leaf_assignment body plan.levels keys) body ≡ true → AllByRecursion (IsGapped sense (leaf_assignment body plan.levels keys)) body.absents → IsWitness sense terms body state (cells_of (leaf_assignment body plan.levels keys) terms)
  IsWitness-at_leaf terms state sense tight keys fit hits held gapped =
      (leaf_assignment body plan.levels keys, held, met_at keys state sense tight fit body.atoms plan.guides of_body.guides hits, refl, gaps_missed sense state tight (leaf_assignment body plan.levels keys) body.absents gapped)

  -- a walk over the levels below some keys certifies the assignments with these keys
  pub certified_below : (sense : Sense) (state : State) (levels : List Level) (l : ℕ) (keys : Keys) → AreTestsBound body → IsTight sense state → Explored sense plan.guides (IsHopeless body plan.levels) (IsSettled body plan sense) levels l keys → l + length levels ≡ length plan.levels
      → (a : Assignment) → holds a body ≡ true → AgreeBelow l keys (keys_under a plan.levels)
      → (AllByRecursion (IsMet sense state a) body.atoms × AllByRecursion (IsMissed sense state a) body.absents) ⊎ (AnyByRecursion (IsMissed sense state a) body.atoms ⊎ AnyByRecursion (IsMet sense state a) body.absents)
  certified_below sense state levels l keys whole tight explored e a holds_body agree =
      elim (followed body plan sense state tight a holds_body of_body (IsHopeless body plan.levels) (IsSettled body plan sense) levels l keys explored agree e) [
        | inl missed ↦ inr (inl missed)
        | inr went ↦ elim went [
          | inl out ↦ absurd (out.2 a out.3 holds_body)
          | inr leaf ↦
              let tests : list_all (passes a) body.tests ≡ true = (and_parts (list_all (λ row. list_all is_cell row) (rows_under a body.atoms)) (list_all (passes a) body.tests) holds_body).1 in
              let same : (v : ℕ) → is_bound body v ≡ true → leaf_assignment body plan.levels leaf.0 v ≡ a v = leaf_same a leaf.0 tests leaf.2 in
              let held : holds (leaf_assignment body plan.levels leaf.0) body ≡ true = holds_same body a (leaf_assignment body plan.levels leaf.0) whole same ∙ holds_body in
              elim (leaf.1.looked held) [
                | inl gapped ↦ inl (
                  all_met body plan sense state tight a holds_body leaf.0 leaf.2 body.atoms plan.guides of_body.guides leaf.1.hits,
                  gaps_missed sense state tight a body.absents (gaps_same sense (is_bound body) a (leaf_assignment body plan.levels leaf.0) same body.absents whole.1 gapped),
                )
                | inr hit ↦ inr (inr (hits_met sense state tight a body.absents (hits_same sense (is_bound body) a (leaf_assignment body plan.levels leaf.0) same body.absents whole.1 hit)))
              ]
        ]
      ]

  -- a walk over all levels certifies the body
  pub Certifies-from_explored : (sense : Sense) (state : State) (keys : Keys) → AreTestsBound body → IsTight sense state → Explored sense plan.guides (IsHopeless body plan.levels) (IsSettled body plan sense) plan.levels 0 keys → Certifies sense body state
  Certifies-from_explored sense state keys whole tight explored a held =
      certified_below sense state plan.levels 0 keys whole tight explored (omega arith) a held (λ m lt. absurd (omega arith))

-- ---- what was collected

module _ {S : Type 0} (way : WayView) (of_body : IsPlanOf way.body way.plan) (found : Found S) (whole : AreTestsBound way.body) (heads : are_bound way.body way.terms ≡ true) (tight : IsTight found.sense way.state) where
  -- the row of each answer with the keys above these levels
  pub collected_below : (levels : List Level) (l : ℕ) (keys : Keys) → Explored found.sense way.plan.guides (IsLeftOut way found) (IsCollected way.body way.plan way.terms found) levels l keys → l + length levels ≡ length way.plan.levels → AreAllFound way found.rows l keys
  collected_below levels l keys explored e a agree held stands none =
      elim (followed way.body way.plan found.sense way.state tight a held of_body (IsLeftOut way found) (IsCollected way.body way.plan way.terms found) levels l keys explored agree e) [
        | inl missed ↦ absurd (not_missed found.sense way.state a way.body.atoms stands missed)
        | inr went ↦ elim went [
          | inl out ↦ elim out.2 [ inl hopeless ↦ absurd (hopeless a out.3 held) | inr early ↦ early.1 a out.3 held stands none ]
          | inr leaf ↦
              let tests : list_all (passes a) way.body.tests ≡ true = (and_parts (list_all (λ row. list_all is_cell row) (rows_under a way.body.atoms)) (list_all (passes a) way.body.tests) held).1 in
              let same : (v : ℕ) → is_bound way.body v ≡ true → leaf_assignment way.body way.plan.levels leaf.0 v ≡ a v = leaf_same way.body way.plan of_body a leaf.0 tests leaf.2 in
              let leaf_held : holds (leaf_assignment way.body way.plan.levels leaf.0) way.body ≡ true = holds_same way.body a (leaf_assignment way.body way.plan.levels leaf.0) whole same ∙ held in
              elim (leaf.1.answer leaf_held) [
                | inl there ↦ subst (λ r. IsIn r found.rows) (cells_same (is_bound way.body) a (leaf_assignment way.body way.plan.levels leaf.0) same way.terms heads) there.0
                | inr hit ↦ absurd (not_met found.sense way.state a way.body.absents none (hits_met found.sense way.state tight a way.body.absents (hits_same found.sense (is_bound way.body) a (leaf_assignment way.body way.plan.levels leaf.0) same way.body.absents whole.1 hit)))
              ]
        ]
      ]

  -- the row of each answer
  pub collected : (keys : Keys) → Explored found.sense way.plan.guides (IsLeftOut way found) (IsCollected way.body way.plan way.terms found) way.plan.levels 0 keys → (row : Row) → IsAnswer way.terms way.body way.state row → IsIn row found.rows
  collected keys explored row answer =
      subst (λ r. IsIn r found.rows) answer.3 (collected_below way.plan.levels 0 keys explored (omega arith) answer.0 (λ m lt. absurd (omega arith)) answer.1 answer.2 answer.4)

  -- sorted and without repeats it is the answers
  pub answers_are : (keys : Keys) → Explored found.sense way.plan.guides (IsLeftOut way found) (IsCollected way.body way.plan way.terms found) way.plan.levels 0 keys → ((row : Row) → IsIn row found.rows → IsAnswer way.terms way.body way.state row) → ascending found.rows ≡ answers way.terms way.body way.state
  answers_are keys explored right =
      ascending_same (ascending found.rows) (answers way.terms way.body way.state) (IsAscending-ascending found.rows) (IsAscending-answers way.terms way.body way.state)
      (λ r h. IsIn-answers_of way.terms way.body way.state r whole heads (right r (IsIn-ascending_from r found.rows h)))
      (λ r h. IsIn-ascending r found.rows (collected keys explored r (IsAnswer-from_answers way.terms way.body way.state r h)))
