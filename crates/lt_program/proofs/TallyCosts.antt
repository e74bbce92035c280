-- The moves of a run, one statement after another.
use Rattle.std.proofs.Common.{◌≡◌, ℕ, zero, suc, ◌+◌, ◌-◌, ◌<◌, ◌≤◌, true, false, List, [], ◌∷◌, length, sym, ap, ◌∙◌, inl, inr, subst, arith}
use Rattle.std.specs.Prelude.{slice_get, ◌==◌, if◌then◌else◌}
use Rattle.std.proofs.lemmas.Bool.{or_cases, cases_lt, eqb-true}
use Rattle.std.proofs.lemmas.List.{length-append}
use Rattle.lt_face.specs.State.{State}
use Rattle.lt_model.specs.declared.normal.Body.{Body}
use Rattle.lt_model.specs.declared.normal.Stmt.{Stmt}
use Rattle.lt_base.specs.Tables.{Table, state_of}
use Rattle.lt_program.specs.Split.{cost_on_by, cost_of_first_by}
use Rattle.lt_program.specs.Tally.{TallyView, IsRun, IsOneMore, has_ended, is_refused, run_of_first, ends_from, ends_at, state_before}
use Rattle.lt_program.proofs.SplitCosts.{cost_within}
use Rattle.lt_program.proofs.TallyGrows.{going_on}

pub one_longer : (old new : TallyView) → IsOneMore old new → length new.parts ≡ suc (length old.parts)
one_longer old new one =
    let long = length-append old.parts (one.part ∷ []) in
    ap length one.parts ∙ (long ∙ (omega arith))

pub cost_more : (most : Body → State → ℕ) (begun mid now n k : ℕ) (p q : List Stmt) (s t : State) → q ≡ p → t ≡ s → mid ≤ begun + cost_of_first_by most n p s → now ≤ mid + cost_on_by most (slice_get q n) (state_before n q t) → k ≡ suc n → now ≤ begun + cost_of_first_by most k p s
cost_more most begun mid now n k p q s t a b before step is =
    let moved : now ≤ mid + cost_on_by most (slice_get q n) (state_before n q s) = subst (λ y. now ≤ mid + cost_on_by most (slice_get q n) (state_before n q y)) b step in
    let there : now ≤ mid + cost_on_by most (slice_get p n) (state_before n p s) = subst (λ x. now ≤ mid + cost_on_by most (slice_get x n) (state_before n x s)) a moved in
    let whole : now ≤ begun + (cost_of_first_by most n p s + cost_on_by most (slice_get p n) (state_before n p s)) = omega arith in
    subst (λ m. now ≤ begun + cost_of_first_by most m p s) (sym is) whole

pub fewer_left : (old new : TallyView) → IsOneMore old new → IsRun old → has_ended old ≡ false → length new.program - length new.parts < length old.program - length old.parts
fewer_left old new one run going =
    let lt = (going_on old going run).1 in
    let long = one_longer old new one in
    let same = ap length one.program in
    omega (arith, lt, long, same)

-- ---- where the program ends

ends_least : (left j : ℕ) (program : List Stmt) (state : State) → j ≤ ends_from left j program state
ends_least zero j program state = omega arith
ends_least (suc left) j program state =
    let rest = ends_least left (j + 1) program state in
    elim (is_refused (run_of_first j program state).0) as (λ b. j ≤ (if b then j else ends_from left (j + 1) program state)) [ true ↦ omega arith | false ↦ omega arith ]

-- the first n statements were evaluated
module _ (program : List Stmt) (state : State) (n : ℕ) (within : n ≤ length program) (went_on : (j : ℕ) → j < n → is_refused (run_of_first j program state).0 ≡ false) where
  ends_is : (n < length program → is_refused (run_of_first n program state).0 ≡ true) → (left j : ℕ) → j ≤ n → j + left ≡ length program → ends_from left j program state ≡ n
  ends_is last zero j le sum = omega (arith, within, le, sum)
  ends_is last (suc left) j le sum = elim (cases_lt j n) [
    | inl lt ↦ ap (λ b. if b then j else ends_from left (j + 1) program state) (went_on j lt) ∙ ends_is last left (j + 1) (omega arith) (omega arith)
    | inr ge ↦
        let e : n ≡ j = omega arith in
        let refused : is_refused (run_of_first j program state).0 ≡ true = ap (λ k. is_refused (run_of_first k program state).0) (sym e) ∙ last (omega arith) in
        ap (λ b. if b then j else ends_from left (j + 1) program state) refused ∙ sym e
  ]

  -- none is left, or the last of them was refused
  pub first_end : (n < length program → is_refused (run_of_first n program state).0 ≡ true) → n ≡ ends_at program state
  first_end last = sym (ends_is last (length program) 0 (omega arith) (omega arith))

  ends_past : is_refused (run_of_first n program state).0 ≡ false → n < length program → (left j : ℕ) → j ≤ n → j + left ≡ length program → n < ends_from left j program state
  ends_past goes more zero j le sum = absurd (omega (arith, more, le, sum))
  ends_past goes more (suc left) j le sum = elim (cases_lt j n) [
    | inl lt ↦ rw (went_on j lt) (ends_past goes more left (j + 1) (omega arith) (omega arith))
    | inr ge ↦
        let e : n ≡ j = omega arith in
        let still : is_refused (run_of_first j program state).0 ≡ false = ap (λ k. is_refused (run_of_first k program state).0) (sym e) ∙ goes in
        let least = ends_least left (j + 1) program state in
        rw still (omega arith)
  ]

  -- some are left, and the program goes on
  pub first_goes_on : is_refused (run_of_first n program state).0 ≡ false → n < length program → n < ends_at program state
  first_goes_on goes more = ends_past goes more (length program) 0 (omega arith) (omega arith)

module _ (t : TallyView) (run : IsRun t) (ended : has_ended t ≡ true) where
  last : length t.parts < length t.program → is_refused (run_of_first (length t.parts) t.program (state_of t.base)).0 ≡ true
  last lt = elim (or_cases (is_refused t.reply) (length t.parts == length t.program) ended) [
    | inl refused ↦ ap is_refused (sym run.reply) ∙ refused
    | inr all ↦ (let e = eqb-true (length t.parts) (length t.program) all in absurd (omega (arith, e, lt)))
  ]

  pub ends_here : (program : List Stmt) (next : List Table) → t.program ≡ program → t.base ≡ next → length t.parts ≡ ends_at program (state_of next)
  ends_here program next a b =
      first_end t.program (state_of t.base) (length t.parts) run.evaluated run.went_on last
      ∙ ap (λ (p : List Stmt). ends_at p (state_of t.base)) a ∙ ap (λ (x : List Table). ends_at program (state_of x)) b

-- ---- a run that goes on

module _ (t : TallyView) (run : IsRun t) (going : has_ended t ≡ false) where
  -- a run that goes on hasn't reached the program's end
  pub goes_on_to : (program : List Stmt) (base : List Table) → t.program ≡ program → t.base ≡ base → length t.parts < ends_at program (state_of base)
  goes_on_to program base a b =
      subst (λ (x : List Table). length t.parts < ends_at program (state_of x)) b
      (subst (λ (p : List Stmt). length t.parts < ends_at p (state_of t.base)) a
      (first_goes_on t.program (state_of t.base) (length t.parts) run.evaluated run.went_on (ap is_refused (sym run.reply) ∙ (going_on t going run).0) (going_on t going run).1))

-- a statement of it was begun, and the moves so far are within what the program's statements may take
pub cost_begun : (most : Body → State → ℕ) (t : TallyView) (begun mid now : ℕ) (program : List Stmt) (base : List Table) → IsRun t → has_ended t ≡ false → t.program ≡ program → t.base ≡ base → mid ≤ begun + cost_of_first_by most (length t.parts) program (state_of base)
    → now ≤ mid + cost_on_by most (slice_get t.program (length t.parts)) (state_before (length t.parts) t.program (state_of t.base)) → now ≤ begun + cost_of_first_by most (ends_at program (state_of base)) program (state_of base)
cost_begun most t begun mid now program base run going a b before step =
    cost_within most program (state_of base) begun mid now (length t.parts) (goes_on_to t run going program base a b) before
    (subst (λ (x : List Table). now ≤ mid + cost_on_by most (slice_get program (length t.parts)) (state_before (length t.parts) program (state_of x))) b
    (subst (λ (p : List Stmt). now ≤ mid + cost_on_by most (slice_get p (length t.parts)) (state_before (length t.parts) p (state_of t.base))) a step))
