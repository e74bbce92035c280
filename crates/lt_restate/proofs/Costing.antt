-- The moves of a restatement.
use Rattle.std.proofs.Common.{◌≡◌, ℕ, zero, suc, ◌+◌, ◌<◌, ◌≤◌, Bool, true, false, List, [], length, Option, Some, None, sym, ap, ◌∙◌, inl, inr, subst, arith}
use Rattle.std.specs.Prelude.{slice_get, if◌then◌else◌}
use Rattle.std.proofs.lemmas.Bool.{cases_Bool, cases_lt}
use Rattle.std.proofs.lemmas.Option.{slice_get_past}
use Rattle.lt_face.specs.State.{Row, State}
use Rattle.lt_base.specs.Tables.{Table, state_of}
use Rattle.lt_base.specs.Changed.{differ_on}
use Rattle.lt_base.proofs.Apart.{differ, alike}
use Rattle.lt_join.proofs.Repair.{list_any_of, list_any_from}
use Rattle.lt_model.specs.declared.normal.Stmt.{Stmt}
use Rattle.lt_sense.specs.Kept.{Sense}
use Rattle.lt_sense.specs.Sense.{covers}
use Rattle.lt_program.specs.Part.{Part}
use Rattle.lt_program.specs.Tally.{TallyView, IsRun, IsOneMore, ends_at, has_ended, cost_on, mending_on, state_before, sense_of, is_sliced_at}
use Rattle.lt_program.proofs.TallyCosts.{one_longer, goes_on_to}
use Rattle.lt_restate.specs.declared.touch.Touch.{Touch}
use Rattle.lt_restate.specs.Changes.{changes_between, is_disturbed, touched_on}
use Rattle.lt_restate.specs.Touches.{IsTouchOn, HasTouch, AreTouches, is_part_disturbed, is_evaluated, cost_after, cost_at, cost_again, before}
use Rattle.lt_restate.proofs.ChangeLists.{change_there, change_differs}
use Rattle.lt_restate.proofs.Ways.{there_is}

-- a covered row on which the states differ disturbs the sense
disturbed : (sense : Sense) (s t : State) (relation : ℕ) (row : Row) → covers sense relation row ≡ true → differ_on s t relation row ≡ true → is_disturbed sense s t ≡ true
disturbed sense s t relation row covered differs = list_any_of (λ (change : ℕ × Row). covers sense change.0 change.1) (relation, row) (changes_between s t) (change_there s t relation row differs) covered

pub touch_disturbs : (j : ℕ) (part : Part) (s t : State) (touch : Touch) → IsTouchOn j part s t touch → is_disturbed (sense_of part) s t ≡ true
touch_disturbs j part s t touch h =
    disturbed (sense_of part) s t touch.relation touch.row h.covered (elim (cases_Bool (differ_on s t touch.relation touch.row)) [ inl e ↦ e | inr e ↦ absurd (h.changed (alike s t touch.relation touch.row e)) ])

-- the moves of a statement that is evaluated
cost_taken : (old t : TallyView) (n begun now : ℕ) → t.program ≡ old.program → is_evaluated old (state_of t.base) n ≡ true → now ≤ begun + cost_after (slice_get old.parts n) (slice_get t.program n) (before n old) (before n t) → now ≤ begun + cost_at old (state_of t.base) n
cost_taken old t n begun now same evaluated h =
    let there : now ≤ begun + cost_after (slice_get old.parts n) (slice_get old.program n) (before n old) (state_before n old.program (state_of t.base)) =
    subst (λ (p : List Stmt). now ≤ begun + cost_after (slice_get old.parts n) (slice_get p n) (before n old) (state_before n p (state_of t.base))) same h in
    subst (λ b. now ≤ begun + (if b then cost_after (slice_get old.parts n) (slice_get old.program n) (before n old) (state_before n old.program (state_of t.base)) else 0)) (sym evaluated) there

module _ (old t : TallyView) (n begun now : ℕ) (part : Part) (touch : Touch) (same : t.program ≡ old.program) (at : slice_get old.parts n ≡ Some part) (is : IsTouchOn n part (before n old) (before n t) touch) where
  evaluated_here : is_evaluated old (state_of t.base) n ≡ true
  evaluated_here =
      let state_is : before n t ≡ state_before n old.program (state_of t.base) = ap (λ (p : List Stmt). state_before n p (state_of t.base)) same in
      ap (λ (o : Option Part). is_part_disturbed o (before n old) (state_before n old.program (state_of t.base))) at
      ∙ (ap (is_disturbed (sense_of part) (before n old)) (sym state_is) ∙ touch_disturbs n part (before n old) (before n t) touch is)

  taken_by : (b : Bool) → is_sliced_at (slice_get t.program n) ≡ b → now ≤ begun + (if b then mending_on (touched_on part (before n old) (before n t)) (slice_get t.program n) (before n t) else cost_on (slice_get t.program n) (before n t)) → now ≤ begun + cost_at old (state_of t.base) n
  taken_by b e h = cost_taken old t n begun now same evaluated_here
      (subst (λ (o : Option Part). now ≤ begun + cost_after o (slice_get t.program n) (before n old) (before n t)) (sym at)
      (subst (λ x. now ≤ begun + (if x then mending_on (touched_on part (before n old) (before n t)) (slice_get t.program n) (before n t) else cost_on (slice_get t.program n) (before n t))) (sym e) h))

  -- a statement that is evaluated as a whole
  pub cost_whole : is_sliced_at (slice_get t.program n) ≡ false → now ≤ begun + cost_on (slice_get t.program n) (before n t) → now ≤ begun + cost_at old (state_of t.base) n
  cost_whole e h = taken_by false e h

  -- one that is mended
  pub cost_mended : (keys : List ℕ) → is_sliced_at (slice_get t.program n) ≡ true → keys ≡ touched_on part (before n old) (before n t) → now ≤ begun + mending_on keys (slice_get t.program n) (before n t) → now ≤ begun + cost_at old (state_of t.base) n
  cost_mended keys e keys_are h = taken_by true e (subst (λ (ks : List ℕ). now ≤ begun + mending_on ks (slice_get t.program n) (before n t)) keys_are h)

pub cost_first : (old t : TallyView) (n begun now : ℕ) → t.program ≡ old.program → length old.parts ≤ n
    → now ≤ begun + cost_on (slice_get t.program n) (state_before n t.program (state_of t.base)) → now ≤ begun + cost_at old (state_of t.base) n
cost_first old t n begun now same past h =
    let none : slice_get old.parts n ≡ None = slice_get_past old.parts n past in
    cost_taken old t n begun now same (ap (λ (o : Option Part). is_part_disturbed o (before n old) (state_before n old.program (state_of t.base))) none)
    (subst (λ (o : Option Part). now ≤ begun + cost_after o (slice_get t.program n) (before n old) (before n t)) (sym none) h)

-- ---- one step more

pub cost_step : (old t new : TallyView) (next : List Table) (first begun now : ℕ) → IsOneMore t new → t.base ≡ next → begun ≤ first + cost_again old (state_of next) (length t.parts) → now ≤ begun + cost_at old (state_of t.base) (length t.parts) → now ≤ first + cost_again old (state_of next) (length new.parts)
cost_step old t new next first begun now one base before step =
    let here : now ≤ begun + cost_at old (state_of next) (length t.parts) = subst (λ (b : List Table). now ≤ begun + cost_at old (state_of b) (length t.parts)) base step in
    let whole : now ≤ first + (cost_again old (state_of next) (length t.parts) + cost_at old (state_of next) (length t.parts)) = omega (arith, before, here) in
    subst (λ k. now ≤ first + cost_again old (state_of next) k) (sym (one_longer t new one)) whole

pub still_step : (old t new : TallyView) (first begun now : ℕ) (touches more : List Touch) → IsOneMore t new → (touches ≡ [] → length t.parts ≤ length old.parts → begun ≤ first) → (more ≡ [] → touches ≡ []) → (more ≡ [] → length t.parts < length old.parts → now ≤ begun)
    → more ≡ [] → length new.parts ≤ length old.parts → now ≤ first
still_step old t new first begun now touches more one still quiet step none le =
    let long = one_longer t new one in
    let a : begun ≤ first = still (quiet none) (omega (arith, le, long)) in
    let b : now ≤ begun = step none (omega (arith, le, long)) in
    omega (arith, a, b)

again_grows : (old : TallyView) (next : State) (n k : ℕ) → n ≤ k → cost_again old next n ≤ cost_again old next k
again_grows old next n zero le = (let e : n ≡ 0 = omega arith in rw e (omega arith))
again_grows old next n (suc k) le = elim (cases_lt k n) [
  | inl lt ↦ (let e : n ≡ suc k = omega arith in rw e (omega arith))
  | inr ge ↦ (let rest = again_grows old next n k ge in omega arith)
]

-- a step was begun, and the moves so far are within what the whole restatement may take
pub cost_refused : (old t : TallyView) (next : List Table) (first begun now : ℕ) → IsRun t → has_ended t ≡ false → t.program ≡ old.program → t.base ≡ next → begun ≤ first + cost_again old (state_of next) (length t.parts) → now ≤ begun + cost_at old (state_of t.base) (length t.parts)
    → now ≤ first + cost_again old (state_of next) (ends_at old.program (state_of next))
cost_refused old t next first begun now run going program base before step =
    let here : now ≤ begun + cost_at old (state_of next) (length t.parts) = subst (λ (b : List Table). now ≤ begun + cost_at old (state_of b) (length t.parts)) base step in
    let lt = goes_on_to t run going old.program next program base in
    let most = again_grows old (state_of next) (suc (length t.parts)) (ends_at old.program (state_of next)) (omega arith) in
    omega (arith, before, here, most)

-- ---- a disturbed sense covers a row on which the states differ

disturbed_from : (sense : Sense) (s t : State) → is_disturbed sense s t ≡ true → (relation : ℕ) × (row : Row) × (covers sense relation row ≡ true) × (differ_on s t relation row ≡ true)
disturbed_from sense s t h =
    let found = list_any_from (λ (change : ℕ × Row). covers sense change.0 change.1) (changes_between s t) h in
    (found.0.0, found.0.1, found.2, change_differs s t found.0.0 found.0.1 found.1)

-- a statement that counts as touched has a touch
pub has_touch : (old new : TallyView) (next : List Table) (touches more : List Touch) → new.program ≡ old.program → new.base ≡ next → more ≡ touches → AreTouches old new touches → (j : ℕ) → j < length old.parts → j < length new.parts → is_evaluated old (state_of next) j ≡ true → HasTouch more j
has_touch old new next touches more program base is h j in_old in_new evaluated =
    let part = there_is old.parts j in_old in
    let state_is : state_before j old.program (state_of next) ≡ before j new =
    ap (λ (p : List Stmt). state_before j p (state_of next)) (sym program) ∙ ap (λ (b : List Table). state_before j new.program (state_of b)) (sym base) in
    let disturbs : is_disturbed (sense_of part.0) (before j old) (before j new) ≡ true =
    ap (is_disturbed (sense_of part.0) (before j old)) (sym state_is) ∙ ap (λ (o : Option Part). is_part_disturbed o (before j old) (state_before j old.program (state_of next))) (sym part.1) ∙ evaluated in
    let row = disturbed_from (sense_of part.0) (before j old) (before j new) disturbs in
    subst (λ (l : List Touch). HasTouch l j) (sym is) (elim (h.others j part.0 part.1 in_new) [
      | inl has ↦ has
      | inr kept ↦ absurd (differ (before j old) (before j new) row.0 row.1 row.3 (kept.agree row.0 row.1 row.2))
    ])
