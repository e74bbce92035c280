-- The loop over the keys of a level: what it keeps, and what it leaves.
use Rattle.std.specs.Prelude.{◌≡◌, ℕ, zero, suc, ◌+◌, ◌-◌, ◌^◌, ◌<◌, ◌≤◌, ◌⊎◌, Bool, true, false, if◌then◌else◌, List, [], ◌∷◌, ◌++◌, length, nat_lt, slice_get, drop, Some}
use Rattle.std.specs.List.{AllByRecursion}
use Rattle.std.proofs.Common.{refl, sym, ap, ◌∙◌, subst, inl, inr, arith}
use Rattle.std.proofs.lemmas.Bool.{and_parts, cases_Bool, ltb-true, true≢false}
use Rattle.lt_face.specs.Lists.{IsIn}
use Rattle.lt_face.specs.State.{Row, State}
use Rattle.lt_leap.specs.Places.{ArePlaces}
use Rattle.lt_leap.specs.Potential.{join_cost}
use Rattle.lt_query.specs.declared.plans.Level.{Level}
use Rattle.lt_query.specs.declared.plans.Plan.{Plan}
use Rattle.lt_model.specs.declared.normal.Term.{Term}
use Rattle.lt_model.specs.declared.normal.Body.{Body}
use Rattle.lt_model.specs.Answers.{answers, ascending}
use Rattle.lt_model.specs.Bound.{are_bound}
use Rattle.lt_model.specs.Cells.{is_cell}
use Rattle.lt_query.specs.Answering.{AreTestsBound}
use Rattle.lt_query.specs.Plan.{IsPlanOf}
use Rattle.lt_query.specs.Holding.{atoms_at_level}
use Rattle.lt_query.specs.Lists.{IsRising}
use Rattle.lt_sense.specs.Kept.{Sense}
use Rattle.lt_sense.specs.Sense.{IsTight}
use Rattle.lt_join.specs.declared.Found.{Found}
use Rattle.lt_join.specs.AtomIter.{AtomView}
use Rattle.lt_join.specs.Cost.{cost_from, iterators_at}
use Rattle.lt_join.specs.Certify.{Certifies, IsWitness}
use Rattle.lt_join.specs.Explored.{Fits, IsHopeless}
use Rattle.lt_join.specs.Holders.{IsPrepared, IsUsable, atoms_at}
use Rattle.lt_join.specs.Level.{AreOpened, HasGone, IsLevelAt, left_at}
use Rattle.lt_join.specs.Walked.{at, AreFoundUnder, FoundGrows, Grows, IsReached, IsRight}
pub use Rattle.lt_join.specs.Way.{HasExplored}
use Rattle.lt_join.specs.Way.{WayView, IsWay, AreAllFound, EndsEarly, HasWalked}
use Rattle.lt_join.proofs.Costs.{IsPaid, IsCredited, IsPaid-begun, IsPaid-more, IsCredited-begun, GainsFewer-below, credited_key, cost-all, cost-stopped, cost-opened}
use Rattle.lt_join.proofs.LookingUp.{Grows-none, gains_none}
use Rattle.lt_join.proofs.Opened.{level_places}
use Rattle.lt_join.proofs.Prepared.{has_columns}
use Rattle.lt_join.proofs.Steps.{IsUnderWay, IsUnderWay-begun, IsUnderWay-more, IsExploredBelow-all, IsReached-none, FoundGrows-chain, answers_found, at_push_below, explored_all, explored_hopeless, found_all, never_early, under_more, witnesses_grow}
use Rattle.lt_join.proofs.Usable.{usable_at}

-- a level below the keys of a plan
pub level_there : (levels : List Level) (n : ℕ) → n < length levels → (level : Level) × (slice_get levels n ≡ Some level)
level_there [] n lt = absurd (omega (arith, lt))
level_there (level ∷ levels) zero lt = (level, refl)
level_there (level ∷ levels) (suc n) lt = level_there levels n (omega (arith, lt))

pub usable_level : (way : WayView) (sense : Sense) (keys : List ℕ) → IsWay way → IsReached way.plan sense keys → length keys < length way.plan.levels → (level : Level) × (slice_get way.plan.levels (length keys) ≡ Some level) × IsUsable way.plan.guides level keys
usable_level way sense keys is reached deeper =
    let f = level_there way.plan.levels (length keys) deeper in
    (f.0, f.1, usable_at way.body way.plan way.terms sense keys f.0 is.of_body is.prepared reached f.1 deeper)

-- the key's hits are there, and nothing else is new
pub record HasEntered {S : Type 0} (way : WayView) (keys : List ℕ) (old new : Found S) : Type 0 where
  pub grows : Grows old.sense new.sense
  pub tight : IsTight new.sense way.state
  pub gaps : new.sense.gaps ≡ old.sense.gaps
  pub few : length new.sense.hits ≤ length old.sense.hits + length (atoms_at way.plan.guides (length keys))
  pub rows : new.rows ≡ old.rows

entered_grows : {S : Type 0} → (way : WayView) (keys : List ℕ) (old new : Found S) → HasEntered way keys old new → FoundGrows old new
entered_grows way keys old new e = record { sense = e.grows; rows = λ row there. subst (IsIn row) (sym e.rows) there }

pub entered_right : {S : Type 0} → (way : WayView) (keys : List ℕ) (old new : Found S) → HasEntered way keys old new → IsRight way.body way.terms way.state old → IsRight way.body way.terms way.state new
entered_right way keys old new e right = record {
  tight = e.tight;
  answers = subst (λ (rows : List Row). AllByRecursion (IsWitness new.sense way.terms way.body way.state) rows) (sym e.rows)
      (witnesses_grow old.sense new.sense e.grows way.terms way.body way.state old.rows right.answers);
}

entered_under : {S : Type 0} → (way : WayView) (keys deeper : List ℕ) (old mid new : Found S) → HasEntered way keys old mid → AreFoundUnder way.terms way.body way.plan way.state deeper mid new → AreFoundUnder way.terms way.body way.plan way.state deeper old new
entered_under way keys deeper old mid new e under row there = elim (under row there) [ inl before ↦ inl (subst (IsIn row) e.rows before) | inr fresh ↦ inr fresh ]

-- a walk that went through all below the key, or found all that is wanted there
pub explored_key : {S : Type 0} → (way : WayView) (keys : List ℕ) (key : ℕ) (old mid new : Found S) (began now : ℕ) (stopped : Bool) → (way.first ≡ false) ⊎ (stopped ≡ false) → HasEntered way keys old mid → HasWalked way (keys ++ key ∷ []) mid new began now stopped → HasExplored way keys key old new began now
explored_key way keys key old mid new began now stopped goes e w = record {
  grows = FoundGrows-chain old mid new (entered_grows way keys old mid e) w.grows;
  right = w.right;
  under = entered_under way keys (keys ++ key ∷ []) old mid new e w.under;
  explored = w.explored goes;
  gaps = (let a = w.gains.gaps in let b = ap length e.gaps in omega (arith, a, b));
  hits = (let a = w.gains.hits in let b = e.few in omega (arith, a, b));
  unfound = λ first. w.unfound first ∙ e.rows;
}

-- a walk below a key that doesn't end the level's
pub goes_below : (way : WayView) (depth : ℕ) (stopped : Bool) → IsWay way → (stopped ≡ false) ⊎ (depth < way.wanted) → (way.first ≡ false) ⊎ (stopped ≡ false)
goes_below way depth stopped is goes =
    elim goes [
      | inl through ↦ inr through
      | inr above ↦ elim (cases_Bool way.first) [ inl first ↦ (let none = is.at_first first in absurd (omega (arith, none, above))) | inr each ↦ inl each ]
    ]

-- it stops at an answer, of which the first doesn't suffice
pub ends_early : (way : WayView) → way.first ≡ false → (way.first ≡ true) ⊎ EndsEarly way → EndsEarly way
ends_early way each asked = elim asked [ inl first ↦ absurd (true≢false (sym first ∙ each)) | inr early ↦ early ]

-- what was found below a key is all that is wanted below the keys
pub found_above : (way : WayView) (keys : List ℕ) (key : ℕ) (rows : List Row) → way.wanted ≤ length keys → AreAllFound way rows way.wanted (at (keys ++ key ∷ [])) → AreAllFound way rows way.wanted (at keys)
found_above way keys key rows within all a agree = all a (λ m lt. at_push_below keys key m (omega (arith, lt, within)) ∙ agree m lt)

-- nothing holds below the keys
pub walked_hopeless : {S : Type 0} → (way : WayView) (found : Found S) (keys : List ℕ) (now : ℕ) → length keys < length way.plan.levels → IsRight way.body way.terms way.state found → IsHopeless way.body way.plan.levels (length keys) (at keys) → HasWalked way keys found found now now false
walked_hopeless way found keys now deeper right hopeless = record {
  gains = gains_none found.sense now;
  grows = record { sense = Grows-none found.sense; rows = λ row there. there };
  right = right;
  under = λ row there. inl there;
  explored = λ _. explored_hopeless way found keys deeper hopeless;
  met = λ e. absurd (true≢false (sym e));
  asked = λ e. absurd (true≢false (sym e));
  deep = λ e. absurd (true≢false (sym e));
  all = λ e. absurd (true≢false (sym e));
  unfound = λ first. refl;
}

-- the level stands at a key or at its end, and what lies below its keys before that was walked
pub record IsGoing {S : Type 0} (way : WayView) (begun found : Found S) (keys : List ℕ) (above atoms : List AtomView) (from began now key turn : ℕ) : Type 0 where
  pub level : Level
  pub here : slice_get way.plan.levels (length keys) ≡ Some level
  pub done : IsUnderWay way begun keys level from found key
  pub paid : IsPaid (length way.body.absents) way.plan way.state keys level began now (left_at level (atoms_at_level way.plan.guides (length keys)) atoms key turn) key
  pub credited : IsCredited (length (atoms_at way.plan.guides (length keys))) begun.sense found.sense began now key
  pub under : AreFoundUnder way.terms way.body way.plan way.state keys begun found
  pub unfound : way.first ≡ true → found.rows ≡ begun.rows
  pub reaches : from ≤ key
  pub rises : began ≤ now
  pub stands : key < 2 ^ 128 - 1 → IsLevelAt way.plan way.state keys (atoms_at_level way.plan.guides (length keys)) above atoms key turn
  pub ended : 2 ^ 128 - 1 ≤ key → atoms ≡ above

-- the level was opened
pub going_begun : {S : Type 0} → (way : WayView) (begun : Found S) (sense : Sense) (keys : List ℕ) (above atoms : List AtomView) (from began now key turn : ℕ) → length keys < length way.plan.levels → IsRight way.body way.terms way.state begun
    → ((level : Level) → slice_get way.plan.levels (length keys) ≡ Some level → HasGone way.body way.plan way.state begun.sense sense keys level (atoms_at_level way.plan.guides (length keys)) above atoms from (began + join_cost (iterators_at way.state way.plan.guides level (length keys) (at keys))) began now key turn)
    → IsGoing way begun (record { sense = sense; rows = begun.rows }) keys above atoms from began now key turn
going_begun way begun sense keys above atoms from began now key turn deeper right opened =
    let f = level_there way.plan.levels (length keys) deeper in
    let gone = opened f.0 f.1 in
    record {
      level = f.0;
      here = f.1;
      done = IsUnderWay-begun way begun keys f.0 from sense key right gone.stands;
      paid = IsPaid-begun (length way.body.absents) way.plan way.state keys f.0 began now (left_at f.0 (atoms_at_level way.plan.guides (length keys)) atoms key turn) key gone.cost;
      credited = IsCredited-begun (length (atoms_at way.plan.guides (length keys))) begun.sense sense began now key gone.gains;
      under = λ row there. inl there;
      unfound = λ first. refl;
      reaches = gone.reaches;
      rises = gone.gains.rises;
      stands = gone.at_key;
      ended = gone.ended;
    }

-- one key was walked, and the level went on
pub going_more : {S : Type 0} → (way : WayView) (begun old new : Found S) (sense : Sense) (keys : List ℕ) (above atoms next : List AtomView) (from began now after end key turn key' turn' : ℕ)
    → IsGoing way begun old keys above atoms from began now key turn → key < 2 ^ 128 - 1 → HasExplored way keys key old new now after
    → after ≤ now + cost_from (length way.body.absents) way.state way.plan.guides (drop (length (keys ++ key ∷ [])) way.plan.levels) (length (keys ++ key ∷ [])) (at (keys ++ key ∷ []))
    → now ≤ after
    → ((level : Level) → slice_get way.plan.levels (length keys) ≡ Some level → Fits level (at keys) key → HasGone way.body way.plan way.state new.sense sense keys level (atoms_at_level way.plan.guides (length keys)) above next (key + 1) (after + left_at level (atoms_at_level way.plan.guides (length keys)) atoms key turn) after end key' turn')
    → IsGoing way begun (record { sense = sense; rows = new.rows }) keys above next from began end key' turn'
going_more way begun old new sense keys above atoms next from began now after end key turn key' turn' so at_key walked below waits went =
    let atoms_there = length (atoms_at way.plan.guides (length keys)) in
    let gone = went so.level so.here (so.done.at_key at_key).1 in
    let none : FoundGrows old old = record { sense = record { gaps = λ gap h. h; hits = λ hit h. h }; rows = λ row h. h } in
    record {
      level = so.level;
      here = so.here;
      done = IsUnderWay-more way begun old old new keys so.level from key sense key' so.done none walked.grows walked.right walked.explored gone.stands;
      paid = IsPaid-more (length way.body.absents) way.plan way.state keys keys so.level began now (left_at so.level (atoms_at_level way.plan.guides (length keys)) atoms key turn) key after end (left_at so.level (atoms_at_level way.plan.guides (length keys)) next key' turn') key' at_key (let a = gone.reaches in omega (arith, a)) so.paid below gone.cost;
      credited = credited_key atoms_there begun.sense old.sense new.sense sense began now after end key key' so.credited at_key walked.gaps walked.hits gone.gains;
      under = under_more way.terms way.body way.plan way.state keys (keys ++ key ∷ []) key begun old new refl so.under walked.under;
      unfound = λ first. walked.unfound first ∙ so.unfound first;
      reaches = (let a = so.reaches in let b = gone.reaches in omega (arith, a, b));
      rises = (let a = so.rises in let b = gone.gains.rises in omega (arith, a, b, waits));
      stands = gone.at_key;
      ended = gone.ended;
    }

module _ {S : Type 0} (way : WayView) (begun found : Found S) (keys : List ℕ) (above atoms : List AtomView) (from began now key turn : ℕ) (so : IsGoing way begun found keys above atoms from began now key turn) where
  -- the key is a cell that fits
  pub going_cell : key < 2 ^ 128 - 1 → is_cell key ≡ true
  going_cell at_key = (so.done.at_key at_key).0

  pub going_fits : key < 2 ^ 128 - 1 → (level : Level) → slice_get way.plan.levels (length keys) ≡ Some level → Fits level (at keys) key
  going_fits at_key level there =
      let same : so.level ≡ level = (let a = so.here in let b = there in cc) in
      subst (λ (lv : Level). Fits lv (at keys) key) same (so.done.at_key at_key).1

  -- at its end it was walked
  pub walked_all : from ≡ 0 → 2 ^ 128 - 1 ≤ key → HasWalked way keys begun found began now false
  walked_all whole end = record {
    gains = so.credited.gains;
    grows = so.done.grows;
    right = so.done.right;
    under = so.under;
    explored = λ _. IsExploredBelow-all way begun found keys so.level key (subst (λ n. IsUnderWay way begun keys so.level n found key) whole so.done) so.here end;
    met = λ e. absurd (true≢false (sym e));
    asked = λ e. absurd (true≢false (sym e));
    deep = λ e. absurd (true≢false (sym e));
    all = λ e. absurd (true≢false (sym e));
    unfound = so.unfound;
  }

  -- or the walk stopped below one of its keys, and no other row lies below the level
  pub walked_stopped : (mid new : Found S) (after : ℕ) (stopped : Bool) → length keys < length way.plan.levels → way.wanted ≤ length keys → stopped ≡ true → key < 2 ^ 128 - 1 → HasEntered way keys found mid → HasWalked way (keys ++ key ∷ []) mid new now after stopped → HasWalked way keys begun new began after true
  walked_stopped mid new after stopped deeper within stops at_key e w =
      let all : way.first ≡ false → AreAllFound way new.rows way.wanted (at keys) = λ each. found_above way keys key new.rows within (w.all stops each) in
      record {
        gains = GainsFewer-below (length (atoms_at way.plan.guides (length keys))) begun.sense found.sense mid.sense new.sense began now after key so.credited at_key e.gaps e.few w.gains;
        grows = FoundGrows-chain begun found new so.done.grows (FoundGrows-chain found mid new (entered_grows way keys found mid e) w.grows);
        right = w.right;
        under = under_more way.terms way.body way.plan way.state keys (keys ++ key ∷ []) key begun found new refl so.under (entered_under way keys (keys ++ key ∷ []) found mid new e w.under);
        explored = λ f. elim f [ inl each ↦ explored_all way new keys deeper within (ends_early way each (w.asked stops)) (all each) | inr goes ↦ absurd (true≢false goes) ];
        met = λ _. w.met stops;
        asked = λ _. w.asked stops;
        deep = λ _. within;
        all = λ _ each. all each;
        unfound = λ first. w.unfound first ∙ (e.rows ∙ so.unfound first);
      }

  -- the moves are within what the levels cost, also where memory is refused
  pub going_cost : now ≤ began + cost_from (length way.body.absents) way.state way.plan.guides (drop (length keys) way.plan.levels) (length keys) (at keys)
  going_cost = cost-all (length way.body.absents) way.plan way.state keys so.level began now (left_at so.level (atoms_at_level way.plan.guides (length keys)) atoms key turn) key so.here so.paid

  pub stopped_cost : (after end : ℕ) → key < 2 ^ 128 - 1
      → after ≤ now + cost_from (length way.body.absents) way.state way.plan.guides (drop (length (keys ++ key ∷ [])) way.plan.levels) (length (keys ++ key ∷ [])) (at (keys ++ key ∷ []))
      → ((level : Level) → slice_get way.plan.levels (length keys) ≡ Some level → end ≤ after + left_at level (atoms_at_level way.plan.guides (length keys)) atoms key turn)
      → end ≤ began + cost_from (length way.body.absents) way.state way.plan.guides (drop (length keys) way.plan.levels) (length keys) (at keys)
  stopped_cost after end at_key below more =
      let left = left_at so.level (atoms_at_level way.plan.guides (length keys)) atoms key turn in
      let last = more so.level so.here in
      cost-stopped (length way.body.absents) way.plan way.state keys so.level began now left key end so.here at_key so.paid (omega (arith, below, last))

pub opened_cost : (way : WayView) (keys : List ℕ) (began now : ℕ) → length keys < length way.plan.levels
    → ((level : Level) → slice_get way.plan.levels (length keys) ≡ Some level → now ≤ began + join_cost (iterators_at way.state way.plan.guides level (length keys) (at keys)))
    → now ≤ began + cost_from (length way.body.absents) way.state way.plan.guides (drop (length keys) way.plan.levels) (length keys) (at keys)
opened_cost way keys began now deeper within =
    let f = level_there way.plan.levels (length keys) deeper in
    cost-opened (length way.body.absents) way.plan way.state keys f.0 began now f.1 (within f.0 f.1)

-- a walk that began with nothing found
pub going_none : {S : Type 0} → (way : WayView) (begun found : Found S) (keys : List ℕ) (above atoms : List AtomView) (from began now key turn : ℕ) → begun.sense ≡ record { gaps = []; hits = [] } → begun.rows ≡ []
    → IsGoing way begun found keys above atoms from began now key turn → IsGoing way (record { sense = record { gaps = []; hits = [] }; rows = [] }) found keys above atoms from began now key turn
going_none way begun found keys above atoms from began now key turn no_sense no_rows so =
    subst (λ (rows : List Row). IsGoing way (record { sense = record { gaps = []; hits = [] }; rows = rows }) found keys above atoms from began now key turn) no_rows
    (subst (λ (sense : Sense). IsGoing way (record { sense = sense; rows = begun.rows }) found keys above atoms from began now key turn) no_sense so)

-- what a walk over all levels has found
pub answered_rows : {S : Type 0} → (way : WayView) (old new : Found S) (began now : ℕ) (stopped : Bool) → IsPlanOf way.body way.plan → AreTestsBound way.body → are_bound way.body way.terms ≡ true → way.first ≡ false → HasWalked way [] old new began now stopped
    → ascending new.rows ≡ answers way.terms way.body way.state
answered_rows way old new began now stopped of_body whole heads each walked = answers_found way new of_body whole heads walked.right (walked.explored (inl each))

-- and, where all levels are wanted, what its sense certifies
pub answered : {S : Type 0} → (way : WayView) (old new : Found S) (began now : ℕ) (stopped : Bool) → IsPlanOf way.body way.plan → AreTestsBound way.body → are_bound way.body way.terms ≡ true → way.first ≡ false → length way.plan.levels ≤ way.wanted → HasWalked way [] old new began now stopped
    → (ascending new.rows ≡ answers way.terms way.body way.state) × Certifies new.sense way.body way.state
answered way old new began now stopped of_body whole heads each late walked =
    found_all way new (never_early way (inr late)) of_body whole heads walked.right (walked.explored (inl each))

-- ---- the keys and iterators that came back

-- what the level's next key is, where it stands at one
abbrev pub GoesOn : WayView → Sense → Sense → List AtomView → ℕ → ℕ → ℕ → ℕ → ℕ → ℕ → List ℕ → List AtomView → Type 0
GoesOn way s t next key turn after end key' turn' keys atoms =
    (level : Level) → slice_get way.plan.levels (length keys) ≡ Some level → (above : List AtomView) → IsLevelAt way.plan way.state keys (atoms_at_level way.plan.guides (length keys)) above atoms key turn → Fits level (at keys) key
    → HasGone way.body way.plan way.state s t keys level (atoms_at_level way.plan.guides (length keys)) above next (key + 1) (after + left_at level (atoms_at_level way.plan.guides (length keys)) atoms key turn) after end key' turn'

pub goes_on : (way : WayView) (s t : Sense) (next : List AtomView) (key turn after end key' turn' : ℕ) (back keys : List ℕ) (stayed above atoms : List AtomView) → back ≡ keys → stayed ≡ atoms → GoesOn way s t next key turn after end key' turn' back stayed
    → IsLevelAt way.plan way.state keys (atoms_at_level way.plan.guides (length keys)) above atoms key turn → (level : Level) → slice_get way.plan.levels (length keys) ≡ Some level → Fits level (at keys) key
    → HasGone way.body way.plan way.state s t keys level (atoms_at_level way.plan.guides (length keys)) above next (key + 1) (after + left_at level (atoms_at_level way.plan.guides (length keys)) atoms key turn) after end key' turn'
goes_on way s t next key turn after end key' turn' back keys stayed above atoms same stay went stands level here fits =
    let kept : GoesOn way s t next key turn after end key' turn' keys atoms =
    subst (λ (ats : List AtomView). GoesOn way s t next key turn after end key' turn' keys ats) stay
    (subst (λ (ks : List ℕ). GoesOn way s t next key turn after end key' turn' ks stayed) same went) in
    kept level here above stands fits

-- and how far it may move for that
abbrev pub MovesOn : WayView → ℕ → ℕ → ℕ → ℕ → List ℕ → List AtomView → Type 0
MovesOn way key turn after end keys atoms = (level : Level) → slice_get way.plan.levels (length keys) ≡ Some level → end ≤ after + left_at level (atoms_at_level way.plan.guides (length keys)) atoms key turn

pub moves_on : (way : WayView) (key turn after end : ℕ) (back keys : List ℕ) (stayed atoms : List AtomView) → back ≡ keys → stayed ≡ atoms → MovesOn way key turn after end back stayed → MovesOn way key turn after end keys atoms
moves_on way key turn after end back keys stayed atoms same stay h =
    subst (λ (ats : List AtomView). MovesOn way key turn after end keys ats) stay (subst (λ (ks : List ℕ). MovesOn way key turn after end ks stayed) same h)

pub stands_still : (way : WayView) (key turn : ℕ) (back keys : List ℕ) (stayed above atoms : List AtomView) → back ≡ keys → stayed ≡ atoms → IsLevelAt way.plan way.state keys (atoms_at_level way.plan.guides (length keys)) above atoms key turn
    → IsLevelAt way.plan way.state back (atoms_at_level way.plan.guides (length back)) above stayed key turn
stands_still way key turn back keys stayed above atoms same stay h =
    subst (λ (ks : List ℕ). IsLevelAt way.plan way.state ks (atoms_at_level way.plan.guides (length ks)) above stayed key turn) (sym same)
    (subst (λ (ats : List AtomView). IsLevelAt way.plan way.state keys (atoms_at_level way.plan.guides (length keys)) above ats key turn) (sym stay) h)

-- the level's iterators can be closed
pub closing_places : (way : WayView) (inside : Plan) (keys places : List ℕ) (above atoms stayed : List AtomView) (key turn : ℕ) → inside ≡ way.plan → AllByRecursion (λ p. p < length inside.guides) places → IsRising places → stayed ≡ atoms
    → IsLevelAt way.plan way.state keys (atoms_at_level way.plan.guides (length keys)) above atoms key turn → ArePlaces places (length stayed)
closing_places way inside keys places above atoms stayed key turn same within up stay stands =
    level_places inside way.plan way.state keys places (atoms_at_level way.plan.guides (length keys)) above stayed same stands.is_above within up
    (subst (λ (ats : List AtomView). AreOpened (atoms_at_level way.plan.guides (length keys)) above ats) (sym stay) stands.opened)

pub closing_opened : (way : WayView) (inside : Plan) (keys places : List ℕ) (above atoms stayed : List AtomView) (depth key turn : ℕ) → inside ≡ way.plan → places ≡ atoms_at_level inside.guides depth → depth ≡ length keys → stayed ≡ atoms
    → IsLevelAt way.plan way.state keys (atoms_at_level way.plan.guides (length keys)) above atoms key turn → AreOpened places above stayed
closing_opened way inside keys places above atoms stayed depth key turn same is deep stay stands =
    let there : places ≡ atoms_at_level way.plan.guides (length keys) = is ∙ (ap (atoms_at_level inside.guides) deep ∙ ap (λ (p : Plan). atoms_at_level p.guides (length keys)) same) in
    subst (λ (ps : List ℕ). AreOpened ps above stayed) (sym there)
    (subst (λ (ats : List AtomView). AreOpened (atoms_at_level way.plan.guides (length keys)) above ats) (sym stay) stands.opened)

-- a key that is a cell
pub low_cell : (key : ℕ) → is_cell key ≡ true → key < 2 ^ 120
low_cell key cell = ltb-true key (2 ^ 120) (and_parts (nat_lt 0 key) (nat_lt key (2 ^ 120)) cell).1

-- the level is there
pub not_full : (keys : List ℕ) (levels : List Level) (n m : ℕ) → length keys ≤ length levels → n ≡ length keys → m ≡ length levels → (n ≡ m → ⊥) → length keys < length levels
not_full keys levels n m within is_n is_m apart =
    let differ : length keys ≡ length levels → ⊥ = λ e. apart (is_n ∙ (e ∙ sym is_m)) in omega (arith, within, differ)

-- nothing found is right
pub right_none : {S : Type 0} → (way : WayView) (found : Found S) → found.sense ≡ record { gaps = []; hits = [] } → found.rows ≡ [] → IsRight way.body way.terms way.state found
right_none way found no_sense no_rows = record {
  tight = subst (λ (sense : Sense). IsTight sense way.state) (sym no_sense) (record { gaps = tt; hits = tt });
  answers = subst (λ (rows : List Row). AllByRecursion (IsWitness found.sense way.terms way.body way.state) rows) (sym no_rows) tt;
}

-- and the first level may be reached with it
pub reached_none : (way : WayView) (sense : Sense) → IsWay way → IsReached way.plan sense []
reached_none way sense is = IsReached-none way.plan sense (has_columns way.plan.guides is.prepared.runnable.widths)

-- the same, by what the way is
pub answered_by : {S : Type 0} → (way : WayView) (state : State) (body : Body) (plan : Plan) (terms : List Term) (old new : Found S) (began now : ℕ) (stopped : Bool) → way ≡ record { state = state; body = body; plan = plan; terms = terms; first = false; wanted = length plan.levels }
    → IsPlanOf body plan → AreTestsBound body → are_bound body terms ≡ true → HasWalked way [] old new began now stopped → (ascending new.rows ≡ answers terms body state) × Certifies new.sense body state
answered_by way state body plan terms old new began now stopped is of_body whole heads walked =
    let exact : WayView = record { state = state; body = body; plan = plan; terms = terms; first = false; wanted = length plan.levels } in
    answered exact old new began now stopped of_body whole heads refl (omega arith) (subst (λ (w : WayView). HasWalked w [] old new began now stopped) is walked)

pub is_way : (way : WayView) (state : State) (body : Body) (plan : Plan) (terms : List Term) (first : Bool) → way ≡ record { state = state; body = body; plan = plan; terms = terms; first = first; wanted = if first then 0 else length plan.levels } → IsPlanOf body plan → IsPrepared body plan terms → IsWay way
is_way way state body plan terms first is of_body prepared =
    subst IsWay (sym is) (record {
      of_body = of_body;
      prepared = prepared;
      at_first = λ e. ap (λ (b : Bool). if b then 0 else length plan.levels) e;
      decided = λ early. (let all = ap (λ (b : Bool). if b then 0 else length plan.levels) early.0 in absurd (omega (arith, all, early.1)));
    })

-- where a level that was opened stands
abbrev pub Opens : WayView → Sense → Sense → List AtomView → List AtomView → ℕ → ℕ → ℕ → ℕ → ℕ → List ℕ → Type 0
Opens way s t above atoms from began now key turn keys =
    (level : Level) → slice_get way.plan.levels (length keys) ≡ Some level
    → HasGone way.body way.plan way.state s t keys level (atoms_at_level way.plan.guides (length keys)) above atoms from (began + join_cost (iterators_at way.state way.plan.guides level (length keys) (at keys))) began now key turn

pub opens_at_root : (way : WayView) (s t : Sense) (above atoms : List AtomView) (from began now key turn : ℕ) (keys : List ℕ) → keys ≡ [] → Opens way s t above atoms from began now key turn keys → Opens way s t above atoms from began now key turn []
opens_at_root way s t above atoms from began now key turn keys same h = subst (λ (ks : List ℕ). Opens way s t above atoms from began now key turn ks) same h
