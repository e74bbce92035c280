-- What a kept part and a touch leave.
use Rattle.std.proofs.Common.{◌≡◌, ℕ, zero, suc, ◌+◌, ◌<◌, ◌≤◌, false, List, [], ◌∷◌, ◌++◌, length, Some, refl, sym, ap, ◌∙◌, inl, inr, subst, arith}
use mathlib.Core.Bool.{true≢false}
use Rattle.std.specs.Prelude.{slice_get, ◌⊎◌}
use Rattle.std.specs.List.{AllByRecursion}
use Rattle.std.proofs.lemmas.Bool.{cases_lt}
use Rattle.std.proofs.lemmas.Option.{slice_get_within}
use Rattle.lt_face.specs.State.{State}
use Rattle.lt_face.proofs.Membership.{IsIn-append_left, IsIn-append_right, IsIn-append_cases}
use Rattle.lt_face.proofs.RowLemmas.{each_weaker}
use Rattle.lt_sense.specs.Sense.{AgreeWhereCovered}
use Rattle.lt_base.specs.Tables.{Table, state_of}
use Rattle.lt_model.specs.declared.normal.Stmt.{Stmt}
use Rattle.lt_program.specs.Part.{Part}
use Rattle.lt_program.specs.Tally.{TallyView, IsOneMore, IsMendedPart, state_before, sense_of, is_sliced_at}
use Rattle.lt_program.proofs.TallyCosts.{one_longer}
use Rattle.lt_restate.specs.declared.touch.Touch.{Touch}
use Rattle.lt_restate.specs.Changes.{touched_on}
use Rattle.lt_restate.specs.Touches.{IsTouchOn, IsTouch, IsKept, HasTouch, AreInOrder, AreMendedAt, AreTouches, before}
use Rattle.lt_query.proofs.Elements.{All_at}

pub push_at : {X : Type 0} (xs : List X) (x : X) → slice_get (xs ++ x ∷ []) (length xs) ≡ Some x
push_at [] x = refl
push_at (y ∷ xs) x = push_at xs x

pub push_before : {X : Type 0} (xs : List X) (x : X) (j : ℕ) → j < length xs → slice_get (xs ++ x ∷ []) j ≡ slice_get xs j
push_before [] x j lt = absurd (omega arith)
push_before (y ∷ xs) x zero lt = refl
push_before (y ∷ xs) x (suc j) lt = push_before xs x j (omega arith)

some_is : {X : Type 0} (x y : X) → Some x ≡ Some y → x ≡ y
some_is x y e = cc

all_push : {X : Type 0} (P : X → Type 0) (xs : List X) (x : X) → AllByRecursion P xs → P x → AllByRecursion P (xs ++ x ∷ [])
all_push P [] x h p = (p, tt)
all_push P (y ∷ xs) x h p = (h.0, all_push P xs x h.1 p)

order_push : (touches : List Touch) (touch : Touch) → AreInOrder touches → AllByRecursion (λ (t : Touch). t.statement < touch.statement) touches → AreInOrder (touches ++ touch ∷ [])
order_push [] touch h low = (tt, tt)
order_push (t ∷ touches) touch h low = (all_push (λ (later : Touch). t.statement < later.statement) touches touch h.0 low.0, order_push touches touch h.1 low.1)

module _ (old t new : TallyView) (one : IsOneMore t new) where
  pub before_same : (j : ℕ) → before j t ≡ before j new
  before_same j =
      ap (λ (p : List Stmt). state_before j p (state_of t.base)) (sym one.program) ∙ ap (λ (b : List Table). state_before j new.program (state_of b)) (sym one.base)

  touch_moved : (touch : Touch) → IsTouch old t touch → IsTouch old new touch
  touch_moved touch h = record {
    place = h.place;
    part = h.part;
    in_old = h.in_old;
    in_new = omega (arith, h.in_new, one_longer t new one);
    touches = subst (λ (s : State). IsTouchOn h.place h.part (before h.place old) s touch) (before_same h.place) h.touches;
  }

  kept_moved : (j : ℕ) (part : Part) → j < length t.parts → IsKept old t j part → IsKept old new j part
  kept_moved j part lt h = record {
    agree = subst (AgreeWhereCovered (sense_of part) (before j old)) (before_same j) h.agree;
    same = ap (λ (ps : List Part). slice_get ps j) one.parts ∙ push_before t.parts one.part j lt ∙ h.same;
  }

  mended_moved : (j : ℕ) → j < length t.parts → AreMendedAt old t j → AreMendedAt old new j
  mended_moved j lt h was is sliced at at_new =
      subst (λ (s : State). IsMendedPart (touched_on was (before j old) s) was is) (before_same j)
      (h was is sliced at (sym (push_before t.parts one.part j lt) ∙ ap (λ (ps : List Part). slice_get ps j) (sym one.parts) ∙ at_new))

  module _ (touches : List Touch) (h : AreTouches old t touches) where
    -- a statement that has a touch was done
    touch_below : (j : ℕ) → HasTouch touches j → j < length t.parts
    touch_below j has = (let k = All_at (IsTouch old t) has.0 touches h.each has.1 in let e = k.touches.numbered in let f = has.2 in let lt = k.in_new in omega (arith, e, f, lt))

    all_mended : (j : ℕ) → HasTouch touches j → AreMendedAt old new j
    all_mended j has = mended_moved j (touch_below j has) (h.mended j has)

    moved : AllByRecursion (IsTouch old new) touches
    moved = each_weaker (IsTouch old t) (IsTouch old new) touch_moved touches h.each

    others_moved : (j : ℕ) (part : Part) → slice_get old.parts j ≡ Some part → j < length t.parts → HasTouch touches j ⊎ IsKept old new j part
    others_moved j part at lt = elim (h.others j part at lt) [ inl has ↦ inl has | inr k ↦ inr (kept_moved j part lt k) ]

    pub touches_first : length old.parts ≤ length t.parts → AreTouches old new touches
    touches_first le = record {
      each = moved;
      in_order = h.in_order;
      mended = all_mended;
      others = λ j part at lt. others_moved j part at (omega (arith, le, slice_get_within old.parts j part at));
    }

    last_of : (j : ℕ) → j < length new.parts → length t.parts ≤ j → j ≡ length t.parts
    last_of j lt le = omega (arith, lt, le, one_longer t new one)

    pub touches_kept : (part : Part) → slice_get old.parts (length t.parts) ≡ Some part → AgreeWhereCovered (sense_of part) (before (length t.parts) old) (before (length t.parts) t) → new.parts ≡ t.parts ++ part ∷ [] → AreTouches old new touches
    touches_kept part at agree grown = record {
      each = moved;
      in_order = h.in_order;
      mended = all_mended;
      others = λ j p at_j lt. elim (cases_lt j (length t.parts)) [
        | inl below ↦ others_moved j p at_j below
        | inr le ↦
            let last = last_of j lt le in
            let same : part ≡ p = some_is part p (sym at ∙ ap (slice_get old.parts) (sym last) ∙ at_j) in
            inr (subst (λ (q : Part). IsKept old new j q) same (subst (λ k. IsKept old new k part) (sym last) here))
      ];
    }
      where
        here : IsKept old new (length t.parts) part
        here = record {
          agree = subst (AgreeWhereCovered (sense_of part) (before (length t.parts) old)) (before_same (length t.parts)) agree;
          same = ap (λ (ps : List Part). slice_get ps (length t.parts)) grown ∙ push_at t.parts part;
        }

    pub touches_again : (part : Part) (touch : Touch) → slice_get old.parts (length t.parts) ≡ Some part → IsTouchOn (length t.parts) part (before (length t.parts) old) (before (length t.parts) t) touch → AreMendedAt old new (length t.parts) → AreTouches old new (touches ++ touch ∷ [])
    touches_again part touch at is mend = record {
      each = all_push (IsTouch old new) touches touch moved (record {
        place = length t.parts;
        part = part;
        in_old = at;
        in_new = omega (arith, one_longer t new one);
        touches = subst (λ (s : State). IsTouchOn (length t.parts) part (before (length t.parts) old) s touch) (before_same (length t.parts)) is;
      });
      in_order = order_push touches touch h.in_order (each_weaker (IsTouch old t) (λ (u : Touch). u.statement < touch.statement) (λ u k. omega (arith, k.touches.numbered, k.in_new, is.numbered)) touches h.each);
      mended = λ j has. elim (IsIn-append_cases has.0 touches (touch ∷ []) has.1) [
        | inl there ↦ all_mended j (has.0, there, has.2)
        | inr last ↦ elim last [
          | inl e ↦ subst (AreMendedAt old new) (let q : touch.statement ≡ j + 1 = ap (λ (u : Touch). u.statement) e ∙ has.2 in let p = is.numbered in let same : length t.parts ≡ j = omega (arith, p, q) in same) mend
          | inr r ↦ absurd r
        ]
      ];
      others = λ j p at_j lt. elim (cases_lt j (length t.parts)) [
        | inl below ↦ elim (others_moved j p at_j below) [ inl has ↦ inl (has.0, IsIn-append_left has.0 touches (touch ∷ []) has.1, has.2) | inr k ↦ inr k ]
        | inr le ↦ inl (touch, IsIn-append_right touch touches (touch ∷ []) (inl refl), is.numbered ∙ ap (λ k. k + 1) (sym (last_of j lt le)))
      ];
    }

  -- a part that was mended
  pub mended_here : (part made : Part) (keys : List ℕ) → slice_get old.parts (length t.parts) ≡ Some part → new.parts ≡ t.parts ++ made ∷ [] → keys ≡ touched_on part (before (length t.parts) old) (before (length t.parts) t) → IsMendedPart keys part made → AreMendedAt old new (length t.parts)
  mended_here part made keys at grown same mended was is sliced at_old at_new =
      let one_part : part ≡ was = some_is part was (sym at ∙ at_old) in
      let one_made : made ≡ is = some_is made is (sym (push_at t.parts made) ∙ (ap (λ (ps : List Part). slice_get ps (length t.parts)) (sym grown) ∙ at_new)) in
      let keys_are : keys ≡ touched_on part (before (length t.parts) old) (before (length t.parts) new) = same ∙ ap (touched_on part (before (length t.parts) old)) (before_same (length t.parts)) in
      subst (λ (p : Part). IsMendedPart (touched_on p (before (length t.parts) old) (before (length t.parts) new)) p is) one_part
      (subst (λ (p : Part). IsMendedPart (touched_on part (before (length t.parts) old) (before (length t.parts) new)) part p) one_made
      (subst (λ (ks : List ℕ). IsMendedPart ks part made) keys_are mended))

  -- a statement that isn't kept by slices
  pub whole_here : is_sliced_at (slice_get old.program (length t.parts)) ≡ false → AreMendedAt old new (length t.parts)
  whole_here whole was is sliced at_old at_new = absurd (true≢false (sym sliced ∙ whole))

pub touches_begun : (old t : TallyView) → t.parts ≡ [] → AreTouches old t []
touches_begun old t none = record {
  each = tt;
  in_order = tt;
  mended = λ j has. absurd has.1;
  others = λ j part at lt. absurd (let e : length t.parts ≡ 0 = ap length none in omega arith);
}
