-- The first of changed rows, and what it touches.
use Rattle.std.proofs.Common.{◌≡◌, ℕ, zero, suc, ◌+◌, ◌<◌, ◌≤◌, true, false, List, [], ◌∷◌, length, take, get_or, Some, refl, sym, ap, ◌∙◌, inl, inr, subst, arith}
use mathlib.Core.Bool.{true≢false}
use Rattle.std.specs.Prelude.{slice_get, ◌⊎◌}
use Rattle.std.specs.Ordering.{is_lt}
use Rattle.std.specs.declared.cmp.Ordering.{Ordering}
use Rattle.std.specs.declared.cmp.Ordering.TheVariants.{Less, Equal, Greater}
use Rattle.std.proofs.lemmas.Bool.{cases_Bool}
use Rattle.lt_face.specs.Lists.{IsIn}
use Rattle.lt_face.specs.State.{Row, State}
use Rattle.lt_face.proofs.Membership.{IsIn-append_cases}
use Rattle.lt_model.specs.declared.mark.Mark.{Mark}
use Rattle.lt_model.specs.Marks.{mark_cmp}
use Rattle.lt_query.proofs.Elements.{All_at}
use Rattle.lt_delta.proofs.MarkOrder.{mark_total, mark_turned}
use Rattle.lt_base.specs.Changed.{differ_on}
use Rattle.lt_base.proofs.Apart.{differ, alike}
use Rattle.lt_sense.proofs.Lies.{take_next}
use Rattle.lt_sense.specs.Sense.{covers, AgreeWhereCovered}
use Rattle.lt_program.specs.Part.{Part}
use Rattle.lt_program.specs.Tally.{sense_of}
use Rattle.lt_restate.specs.declared.touch.Spot.{Spot}
use Rattle.lt_restate.specs.declared.touch.Touch.{Touch}
use Rattle.lt_restate.specs.Bases.{IsRowOf, AreRowsOf}
use Rattle.lt_restate.specs.Covered.{AreCoveredChanges, IsFirstAt}
use Rattle.lt_restate.specs.Spots.{IsSpotOf}
use Rattle.lt_restate.specs.Touches.{change_cmp, IsTouchOn}
use Rattle.lt_restate.proofs.Covering.{all_taken}

abbrev Change : Type 0
Change = ℕ × Row

-- ---- the order of changed rows

row_at : Change → Mark
row_at z = record { relation = z.0; row = z.1; plus = true }

is_less : (o : Ordering) → is_lt o ≡ true → o ≡ Less
is_less Less h = refl
is_less Equal h = absurd (true≢false (sym h))
is_less Greater h = absurd (true≢false (sym h))

-- what isn't before one isn't before an earlier one
stays_least : (z a b : Change) → is_lt (change_cmp z a) ≡ false → is_lt (change_cmp b a) ≡ true → is_lt (change_cmp z b) ≡ false
unfolding row_at
stays_least z a b off on = elim (cases_Bool (is_lt (change_cmp z b))) [
  | inl less ↦ absurd (true≢false (sym (ap is_lt (mark_total.trans (row_at z) (row_at b) (row_at a) (is_less (mark_cmp (row_at z) (row_at b)) less) (is_less (mark_cmp (row_at b) (row_at a)) on))) ∙ off))
  | inr so ↦ so
]

not_before_itself : (z : Change) → is_lt (change_cmp z z) ≡ false
unfolding row_at
not_before_itself z = elim (cases_Bool (is_lt (change_cmp z z))) [
  | inl less ↦ (let l = is_less (mark_cmp (row_at z) (row_at z)) less in let g = mark_turned (row_at z) (row_at z) l in let k : Less ≡ Greater = sym l ∙ g in absurd cc)
  | inr so ↦ so
]

-- ---- the first of several

-- the one at the place is the first of the first i
pub record IsFirstOf (changes : List Change) (i place : ℕ) : Type 0 where
  pub within : place < i
  pub short : i ≤ length changes
  pub first : Change
  pub is_there : slice_get changes place ≡ Some first
  pub least : (other : Change) → IsIn other (take i changes) → is_lt (change_cmp other first) ≡ false

got : {X : Type 0} (xs : List X) (i : ℕ) (x : X) → i < length xs → x ≡ get_or xs i x → slice_get xs i ≡ Some x
got [] i x lt e = absurd (omega arith)
got (y ∷ xs) zero x lt e = ap Some (sym e)
got (y ∷ xs) (suc i) x lt e = got xs i x (omega arith) e

some_is : (x y : Change) → Some x ≡ Some y → x ≡ y
some_is x y e = cc

module _ (changes : List Change) where
  pub first_begun : 0 < length changes → IsFirstOf changes 1 0
  first_begun lt = go changes lt
    where
      go : (l : List Change) → 0 < length l → IsFirstOf l 1 0
      go [] lt = absurd (omega arith)
      go (x ∷ l) lt = record {
        within = omega arith;
        short = omega arith;
        first = x;
        is_there = refl;
        least = λ other h. elim h [ inl e ↦ subst (λ (z : Change). is_lt (change_cmp z x) ≡ false) e (not_before_itself x) | inr r ↦ absurd (none l other r) ];
      }
        where
          none : (l : List Change) (z : Change) → IsIn z (take 0 l) → ⊥
          none [] z h = h
          none (y ∷ l) z h = h

  module _ (i place : ℕ) (h : IsFirstOf changes i place) (x : Change) (lt : i < length changes) (is : x ≡ get_or changes i x) where
    of_next : (other : Change) → IsIn other (take (i + 1) changes) → IsIn other (take i changes) ⊎ (x ≡ other)
    of_next other there = elim (IsIn-append_cases other (take i changes) (x ∷ []) (subst (IsIn other) (take_next changes i x lt is) there)) [
      | inl a ↦ inl a
      | inr b ↦ elim b [ inl e ↦ inr e | inr r ↦ absurd r ]
    ]

    -- another comes first
    pub first_changes : (f : Change) → f ≡ get_or changes place f → is_lt (change_cmp x f) ≡ true → IsFirstOf changes (i + 1) i
    first_changes f f_is before = record {
      within = omega arith;
      short = omega arith;
      first = x;
      is_there = got changes i x lt is;
      least = λ other there. elim (of_next other there) [
        | inl old ↦ stays_least other h.first x (h.least other old) (subst (λ (z : Change). is_lt (change_cmp x z) ≡ true) (some_is f h.first (sym (got changes place f (let w = h.within in omega arith) f_is) ∙ h.is_there)) before)
        | inr e ↦ subst (λ (z : Change). is_lt (change_cmp z x) ≡ false) e (not_before_itself x)
      ];
    }

    pub first_stays : (f : Change) → f ≡ get_or changes place f → is_lt (change_cmp x f) ≡ false → IsFirstOf changes (i + 1) place
    first_stays f f_is after = record {
      within = (let w = h.within in omega arith);
      short = omega arith;
      first = h.first;
      is_there = h.is_there;
      least = λ other there. elim (of_next other there) [
        | inl old ↦ h.least other old
        | inr e ↦ subst (λ (z : Change). is_lt (change_cmp z h.first) ≡ false) e (subst (λ (z : Change). is_lt (change_cmp x z) ≡ false) (some_is f h.first (sym (got changes place f (let w = h.within in omega arith) f_is) ∙ h.is_there)) after)
      ];
    }

  pub first_whole : (i place : ℕ) → length changes ≤ i → IsFirstOf changes i place → IsFirstAt changes place
  first_whole i place le h = record { first = h.first; is_there = h.is_there; least = λ other there. h.least other (subst (IsIn other) (sym (all_taken changes i le)) there) }

-- ---- what the first touches

module _ (part : Part) (changes : List Change) where
  pub none_touches : length changes ≡ 0 → (s t : State) → AreCoveredChanges (sense_of part) s t changes → AgreeWhereCovered (sense_of part) s t
  none_touches none s t are relation row covered = elim (cases_Bool (differ_on s t relation row)) [
    | inl e ↦ absurd (empty changes none (are.all (relation, row) (record { covered = covered; differs = e })))
    | inr e ↦ alike s t relation row e
  ]
    where
      empty : (l : List Change) → length l ≡ 0 → IsIn (relation, row) l → ⊥
      empty [] e h = h
      empty (x ∷ l) e h = absurd (omega (arith, e))

  in_list : (l : List Change) (place : ℕ) (x : Change) → slice_get l place ≡ Some x → IsIn x l
  in_list [] place x e = absurd cc
  in_list (y ∷ l) zero x e = (let k : y ≡ x = cc in inl k)
  in_list (y ∷ l) (suc place) x e = inr (in_list l place x e)

  module _ (place : ℕ) (at : IsFirstAt changes place) (f : Change) (lt : place < length changes) (f_is : f ≡ get_or changes place f) where
    same : f ≡ at.first
    same = some_is f at.first (sym (got changes place f lt f_is) ∙ at.is_there)

    there : IsIn f changes
    there = in_list changes place f (got changes place f lt f_is)

    pub first_row : (base : State) → AreRowsOf base changes → IsRowOf base f.0 f.1
    first_row base rows = All_at (λ (z : Change). IsRowOf base z.0 z.1) f changes rows there

    pub first_touches : (j : ℕ) (spot : Spot) (row : Row) → row ≡ f.1 → (touch : Touch) → touch ≡ record { statement = j + 1; relation = f.0; row = row; spot = spot } → (s t : State) → (covers (sense_of part) f.0 f.1 ≡ true → IsSpotOf (sense_of part) s f.0 f.1 spot)
        → AreCoveredChanges (sense_of part) s t changes → IsTouchOn j part s t touch
    first_touches j spot row row_is touch made s t by_spot are = subst (IsTouchOn j part s t) (sym (made ∙ ap (λ (r : Row). let u : Touch = record { statement = j + 1; relation = f.0; row = r; spot = spot } in u) row_is)) (record {
      numbered = refl;
      changed = λ agree. differ s t f.0 f.1 (are.each f there).differs agree;
      covered = (are.each f there).covered;
      by_spot = by_spot (are.each f there).covered;
      first = λ relation row covered less. elim (cases_Bool (differ_on s t relation row)) [
        | inl e ↦ absurd (true≢false (sym (ap is_lt less) ∙ subst (λ (z : Change). is_lt (change_cmp (relation, row) z) ≡ false) (sym same) (at.least (relation, row) (are.all (relation, row) (record { covered = covered; differs = e })))))
        | inr e ↦ alike s t relation row e
      ];
    })
