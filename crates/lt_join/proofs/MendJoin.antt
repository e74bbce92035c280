-- Slices of touched keys, joined anew.
use Rattle.std.specs.Prelude.{◌≡◌, Bool, ℕ, zero, suc, ◌+◌, ◌^◌, ◌<◌, ◌≤◌, nat_lt, true, ◌==◌, if◌then◌else◌, List, [], ◌∷◌, ◌++◌, length, take, slice_get, Some}
use Rattle.std.specs.List.{AllByRecursion, list_all, sum_by}
use Rattle.std.proofs.Common.{refl, sym, ap, ◌∙◌, subst, inl, inr, arith, get_or}
use Rattle.std.proofs.lemmas.Bool.{and_parts, and_from, eq-eqb, ltb-true, lt-ltb, true≢false}
use Rattle.std.proofs.lemmas.List.Sums.{sum_by-cons, sum_by-append}
use Rattle.lt_face.specs.Lists.{IsIn, AnyByRecursion}
use Rattle.lt_face.specs.Rows.{IsCell}
use Rattle.lt_face.specs.State.{Row, State}
use Rattle.lt_model.specs.declared.normal.Term.{Term}
use Rattle.lt_model.specs.declared.normal.Term.TheVariants.{Var, Cell}
use Rattle.lt_model.specs.declared.normal.Body.{Body}
use Rattle.lt_model.specs.Answers.{Assignment, cell_of, rows_under, passes, holds, answers}
use Rattle.lt_model.specs.Cells.{is_cell}
use Rattle.lt_model.specs.Fits.{IsTermOf, IsBodyOf}
use Rattle.lt_query.proofs.Given.{IsAnswer-from_answers}
use Rattle.lt_query.specs.declared.plans.Level.{Level}
use Rattle.lt_query.specs.declared.plans.Plan.{Plan}
use Rattle.lt_query.specs.Plan.{term_at, IsDetermined, IsLevelOf, IsPlanOf}
use Rattle.lt_query.specs.Runnable.{IsRunnable}
use Rattle.lt_sense.specs.Kept.{Sense}
use Rattle.lt_sense.specs.Sense.{IsTight}
use Rattle.lt_join.specs.Slices.{Slice}
use Rattle.lt_join.specs.Asked.{AreAnswerable, CanJoin}
use Rattle.lt_join.specs.Cost.{bound}
use Rattle.lt_join.specs.Holders.{IsPrepared}
use Rattle.lt_join.specs.Parts.{IsJoinable}
use Rattle.lt_join.specs.MendedPlan.{pinned_plan, MayPin, IsForbidden, first_admits, slice_cost, mending_cost}
use Rattle.lt_join.specs.Sliced.{pinned, IsSliceOf}
use Rattle.lt_join.proofs.Lists.{take_more}
use Rattle.lt_join.proofs.Hopeless.{pins_fit}
use Rattle.lt_join.proofs.Pinned.{are_bound_pinned, holds_pinned, term_in, tests_pinned}
use Rattle.lt_join.proofs.PinnedPlan.{IsPlanOf-pinned, IsRunnable-pinned, length_same, variables_pinned}
use Rattle.lt_join.proofs.Prepared.{IsPrepared-from}
use Rattle.lt_join.proofs.Repair.{All_at}
use Rattle.lt_join.proofs.SliceLaws.{first_is}
use Rattle.lt_join.proofs.Steps.{slice_get_below}
use Rattle.lt_join.proofs.Walks.{key_is_cell}

-- ---- the first level

pub term_first : (levels : List Level) (level : Level) → slice_get levels 0 ≡ Some level → level.term ≡ term_at levels 0
term_first [] level e = cc
term_first (first ∷ levels) level e = cc

level_first : (body : Body) (plan : Plan) (level : Level) → IsPlanOf body plan → slice_get plan.levels 0 ≡ Some level → IsLevelOf body plan.levels 0 level
level_first body plan level of_body e = first_is body plan.levels plan.levels level of_body.levels e

may_of : (key : ℕ) (levels : List Level) (level : Level) (term : Term) → IsDetermined levels 0 level term → AllByRecursion (λ pin. pin ≡ key) level.pins → MayPin term key
may_of key levels level (Cell c) h are = All_at (λ pin. pin ≡ key) level.pins c are h
may_of key levels level (Var v) h are = tt

-- where each pin of the first level is the key, its term may be pinned to it
may_pin : (key : ℕ) (body : Body) (plan : Plan) (level : Level) → IsPlanOf body plan → slice_get plan.levels 0 ≡ Some level → AllByRecursion (λ pin. pin ≡ key) level.pins → MayPin (term_at plan.levels 0) key
may_pin key body plan level of_body e are = subst (λ t. MayPin t key) (term_first plan.levels level e) (may_of key plan.levels level level.term (level_first body plan level of_body e).determined are)

-- ---- where the key is forbidden

all_any : {X : Type 0} (P : X → Type 0) (xs : List X) → AllByRecursion P xs → AnyByRecursion (λ x. P x → ⊥) xs → ⊥
all_any P [] all any = any
all_any P (x ∷ xs) all any = elim any [ inl not_so ↦ not_so all.0 | inr r ↦ all_any P xs all.1 r ]

abbrev nothing : Sense
nothing = record { gaps = []; hits = [] }

-- no assignment that holds gives the term the key
none_at : (key : ℕ) (body : Body) (plan : Plan) (level : Level) → IsPlanOf body plan → slice_get plan.levels 0 ≡ Some level → IsForbidden level key → (a : Assignment) → holds a (pinned (term_at plan.levels 0) key body) ≡ true → ⊥
none_at key body plan level of_body e other a held =
    let both = holds_pinned a (term_at plan.levels 0) key body held in
    let free : IsTight nothing [] = record { gaps = tt; hits = tt } in
    let at = of_body.held 0 (slice_get_below plan.levels 0 level e) in
    let cells = (and_parts (list_all (λ row. list_all is_cell row) (rows_under a body.atoms)) (list_all (passes a) body.tests) both.0).0 in
    let cell : cell_of a level.term ≡ key = ap (cell_of a) (term_first plan.levels level e) ∙ both.1 in
    elim other [
      | inl never ↦ true≢false (sym (subst (λ k. is_cell k ≡ true) both.1 (key_is_cell body plan nothing [] free a both.0 0 at.0 at.2 body.atoms plan.guides of_body.guides cells at.1)) ∙ never)
      | inr pin ↦ all_any (λ pin. pin ≡ key) level.pins (pins_fit body a both.0 level.term level.pins key cell (level_first body plan level of_body e).pins) pin
    ]

pub no_rows : (rows : List Row) → ((row : Row) → IsIn row rows → ⊥) → [] ≡ rows
no_rows [] h = refl
no_rows (row ∷ rows) h = absurd (h row (inl refl))

-- the slice of the key is empty
pub empty_slice : (terms : List Term) (body : Body) (plan : Plan) (state : State) (level : Level) (slice : Slice) → IsPlanOf body plan → slice_get plan.levels 0 ≡ Some level → IsForbidden level slice.key → slice.rows ≡ [] → slice.sense ≡ record { gaps = []; hits = [] } → IsSliceOf terms body (term_at plan.levels 0) state slice
empty_slice terms body plan state level slice of_body e other rows sense =
    let term = term_at plan.levels 0 in
    record {
      rows = rows ∙ no_rows (answers terms (pinned term slice.key body) state) (λ row at.
          let answer = IsAnswer-from_answers terms (pinned term slice.key body) state row at in
          none_at slice.key body plan level of_body e other answer.0 answer.1);
      certified = λ a held. absurd (none_at slice.key body plan level of_body e other a held);
      tight = subst (λ (s : Sense). IsTight s state) (sym sense) (record { gaps = tt; hits = tt });
    }

-- ---- the pinned body and plan

IsPrepared-pinned : (state : State) (key : ℕ) (body : Body) (plan : Plan) (terms : List Term) (level : Level) → IsCell key → IsBodyOf state body → IsPlanOf body plan → IsRunnable body plan → length terms ≤ 8 → slice_get plan.levels 0 ≡ Some level → IsPrepared (pinned (term_at plan.levels 0) key body) (pinned_plan key plan) terms
IsPrepared-pinned state key body plan terms level cell fits of_body runnable narrow e =
    let before = IsPrepared-from state body plan terms fits runnable narrow in
    let first : IsTermOf 16 level.term = All_at (λ (l : Level). IsTermOf 16 l.term) plan.levels level before.variables (get_in plan.levels level e) in
    record {
      runnable = IsRunnable-pinned state key body plan cell fits of_body runnable;
      tests = ((subst (IsTermOf 16) (term_first plan.levels level e) first, (cell, tt)), before.tests);
      absents = before.absents;
      variables = variables_pinned key 16 plan.levels before.variables;
      narrow = narrow;
    } where
      get_in : (levels : List Level) (level : Level) → slice_get levels 0 ≡ Some level → IsIn level levels
      get_in [] level e = cc
      get_in (first ∷ levels) level e = inl (cc)

-- they can be walked
pub IsJoinable-pinned : (state : State) (has_index : ℕ → List ℕ → Bool) (key : ℕ) (body : Body) (plan : Plan) (terms : List Term) (level : Level) → CanJoin state has_index body plan → AreAnswerable body terms → 0 < length plan.levels → IsCell key → slice_get plan.levels 0 ≡ Some level → AllByRecursion (λ pin. pin ≡ key) level.pins
    → IsJoinable state has_index (pinned (term_at plan.levels 0) key body) (pinned_plan key plan) terms
IsJoinable-pinned state has_index key body plan terms level can answerable some cell e are =
    let term : Term = term_at plan.levels 0 in
    let there = term_in body plan can.of_body 0 some in
    record {
      of_body = IsPlanOf-pinned key body plan (may_pin key body plan level can.of_body e are) can.of_body;
      prepared = IsPrepared-pinned state key body plan terms level cell can.fits can.of_body can.runnable answerable.narrow e;
      has_indexes = can.has_indexes;
      has_firsts = can.has_firsts;
      tests = tests_pinned term key body there (can.fits.is_bound, can.fits.are_absents_bound);
      heads = are_bound_pinned term key body there terms ∙ answerable.are_bound;
      has_levels = subst (λ n. 0 < n) (sym (length_same key plan.levels)) some;
    }

-- a key that may stand is a cell
pub cell_of_key : (key : ℕ) → is_cell key ≡ true → IsCell key
cell_of_key key h =
    let both = and_parts (nat_lt 0 key) (nat_lt key (2 ^ 120)) h in
    let some = ltb-true 0 key both.0 in
    (omega arith, ltb-true key (2 ^ 120) both.1)

-- a key that is a cell and each pin of the first level is admitted, and its slice may take the moves of the pinned plan
pub admitted : (key : ℕ) (levels : List Level) (level : Level) → slice_get levels 0 ≡ Some level → IsCell key → AllByRecursion (λ pin. pin ≡ key) level.pins → first_admits levels key ≡ true
admitted key [] level e cell are = cc
admitted key (first ∷ levels) level e cell are =
    let same : level ≡ first = cc in
    and_from (is_cell key) (list_all (λ pin. pin == key) first.pins)
    (and_from (nat_lt 0 key) (nat_lt key (2 ^ 120)) (lt-ltb 0 key (omega (arith, cell.0))) (lt-ltb key (2 ^ 120) cell.1))
    (all_of first.pins (subst (λ (l : Level). AllByRecursion (λ pin. pin ≡ key) l.pins) same are))
  where
    all_of : (pins : List ℕ) → AllByRecursion (λ pin. pin ≡ key) pins → list_all (λ pin. pin == key) pins ≡ true
    all_of [] h = refl
    all_of (pin ∷ pins) h = and_from (pin == key) (list_all (λ pin. pin == key) pins) (eq-eqb pin key h.0) (all_of pins h.1)

pub cost_admitted : (key : ℕ) (body : Body) (plan : Plan) (state : State) (level : Level) → slice_get plan.levels 0 ≡ Some level → IsCell key → AllByRecursion (λ pin. pin ≡ key) level.pins → bound body (pinned_plan key plan) state ≡ slice_cost key body plan state
cost_admitted key body plan state level e cell are = sym (ap (λ b. if b then bound body (pinned_plan key plan) state else 0) (admitted key plan.levels level e cell are))

-- ---- slices one by one

-- the number at this place, whatever is said for none
pub key_is : (keys : List ℕ) (i : ℕ) → i < length keys → get_or keys i 0 ≡ get_or keys i (get_or keys i 0)
key_is keys i lt = whatever keys i lt (get_or keys i 0) where
  whatever : (ks : List ℕ) (n : ℕ) → n < length ks → (other : ℕ) → get_or ks n 0 ≡ get_or ks n other
  whatever [] n below other = absurd (omega arith)
  whatever (k ∷ ks) zero below other = refl
  whatever (k ∷ ks) (suc n) below other = whatever ks n (omega arith) other

-- ---- what they cost

sum_more : (f : ℕ → ℕ) (xs : List ℕ) (x : ℕ) → sum_by f (xs ++ x ∷ []) ≡ sum_by f xs + f x
sum_more f xs x =
    let whole = sum_by-append f xs (x ∷ []) in
    let one = sum_by-cons f x [] in
    let none : sum_by f [] ≡ 0 = refl in
    omega arith

pub cost_more : (keys : List ℕ) (i key : ℕ) (body : Body) (plan : Plan) (state : State) (begun now next : ℕ) → i < length keys → key ≡ get_or keys i key → next ≤ now + slice_cost key body plan state → now ≤ begun + mending_cost (take i keys) body plan state → next ≤ begun + mending_cost (take (i + 1) keys) body plan state
cost_more keys i key body plan state begun now next lt is one so =
    let e : mending_cost (take (i + 1) keys) body plan state ≡ mending_cost (take i keys) body plan state + slice_cost key body plan state =
    ap (λ ks. mending_cost ks body plan state) (take_more keys i key lt is) ∙ sum_more (λ k. slice_cost k body plan state) (take i keys) key in
    omega arith

sum_take : (f : ℕ → ℕ) (xs : List ℕ) (i : ℕ) → sum_by f (take i xs) ≤ sum_by f xs
sum_take f [] zero = omega arith
sum_take f [] (suc i) = omega arith
sum_take f (x ∷ xs) zero = let none : sum_by f [] ≡ 0 = refl in omega arith
sum_take f (x ∷ xs) (suc i) =
    let less = sum_take f xs i in
    let part = sum_by-cons f x (take i xs) in
    let whole = sum_by-cons f x xs in
    omega arith

-- so many keys cost no more than all
pub cost_within : (keys : List ℕ) (i : ℕ) (body : Body) (plan : Plan) (state : State) (begun now : ℕ) → now ≤ begun + mending_cost (take i keys) body plan state → now ≤ begun + mending_cost keys body plan state
cost_within keys i body plan state begun now so = let e = sum_take (λ k. slice_cost k body plan state) keys i in omega arith

-- one key more, also where it was stopped in the middle
pub cost_stopped : (keys : List ℕ) (i key : ℕ) (body : Body) (plan : Plan) (state : State) (begun now next : ℕ) → i < length keys → key ≡ get_or keys i key → next ≤ now + slice_cost key body plan state → now ≤ begun + mending_cost (take i keys) body plan state → next ≤ begun + mending_cost keys body plan state
cost_stopped keys i key body plan state begun now next lt is one so = cost_within keys (i + 1) body plan state begun next (cost_more keys i key body plan state begun now next lt is one so)

-- ---- pins one by one

pub pins_more : (key : ℕ) (pins : List ℕ) (i pin : ℕ) → i < length pins → pin ≡ get_or pins i pin → pin ≡ key → AllByRecursion (λ p. p ≡ key) (take i pins) → AllByRecursion (λ p. p ≡ key) (take (i + 1) pins)
pins_more key pins i pin lt is same so = subst (AllByRecursion (λ p. p ≡ key)) (sym (take_more pins i pin lt is)) (push (take i pins) so) where
  push : (ps : List ℕ) → AllByRecursion (λ p. p ≡ key) ps → AllByRecursion (λ p. p ≡ key) (ps ++ pin ∷ [])
  push [] h = (same, tt)
  push (p ∷ ps) h = (h.0, push ps h.1)

pub pin_differs : (key : ℕ) (pins : List ℕ) (i pin : ℕ) → i < length pins → pin ≡ get_or pins i pin → (pin ≡ key → ⊥) → AnyByRecursion (λ p. p ≡ key → ⊥) pins
pin_differs key [] i pin lt is not_so = absurd (omega arith)
pin_differs key (p ∷ pins) zero pin lt is not_so = inl (λ e. not_so (is ∙ e))
pin_differs key (p ∷ pins) (suc i) pin lt is not_so = inr (pin_differs key pins i pin (omega arith) is not_so)
