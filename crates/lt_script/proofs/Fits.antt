-- A front of bytes has a form, told constant by constant.
use Rattle.std.proofs.Common.{◌≡◌, ℕ, suc, ◌+◌, ◌<◌, ◌≤◌, List, [], ◌∷◌, ◌++◌, length, get_or, take, drop, refl, sym, ap, subst, ◌∙◌, append_assoc, drop-cons, drop-drop, arith}
use Rattle.std.proofs.lemmas.List.{append-nil, drop_all}
use Rattle.lt_script.specs.declared.slots.Slot.{Slot}
use Rattle.lt_script.specs.Forms.{IsConstant, HasForm}

-- Whatever front of what is left fits the slots from here on, all before it and it together fit all slots.
pub record FitsOn (slots : List Slot) (text bytes : List ℕ) (i : ℕ) (rest left cells : List ℕ) : Type 0 where
  pub all : (f c after : List ℕ) → left ≡ f ++ after → HasForm (drop i slots) rest f c → (front : List ℕ) × (bytes ≡ front ++ after) × HasForm slots text front (cells ++ c)

pub fits_first : (slots : List Slot) (text bytes cells : List ℕ) → cells ≡ [] → FitsOn slots text bytes 0 text bytes cells
fits_first slots text bytes cells none = record { all = λ f c after e h. (f, e, subst (λ w. HasForm slots text f (w ++ c)) (sym none) h) }

-- a slot's chunk, its constant, and what is behind it
pub fits_constant : (slots : List Slot) (text bytes : List ℕ) (i : ℕ) (d : Slot) (from of_slot rest left chunk at behind constant cells now : List ℕ) (cell : ℕ) → i < length slots → chunk ≡ take (get_or slots i d).before from → of_slot ≡ drop (get_or slots i d).before from
    → rest ≡ drop (get_or slots i d).len of_slot → left ≡ chunk ++ at → at ≡ constant ++ behind → IsConstant (get_or slots i d).blank constant cell → now ≡ cells ++ cell ∷ [] → FitsOn slots text bytes i from left cells → FitsOn slots text bytes (i + 1) rest behind now
fits_constant slots text bytes i d from of_slot rest left chunk at behind constant cells now cell lt front back further before here is pushed fits =
    let slot : Slot = get_or slots i d in
    let more : suc i ≡ i + 1 = omega arith in
    let next : drop i slots ≡ slot ∷ drop (i + 1) slots = drop-cons slots i d lt ∙ ap (λ n. slot ∷ drop n slots) more in
    let remains : rest ≡ drop (slot.before + slot.len) from = further ∙ (ap (drop slot.len) back ∙ drop-drop slot.len slot.before from) in
    record {
      all = λ f c after e h.
          let front_bytes : List ℕ = take slot.before from ++ (constant ++ f) in
          let whole : left ≡ front_bytes ++ after =
          before ∙ (ap (λ w. w ++ at) front ∙ (ap (λ w. take slot.before from ++ w) (here ∙ (ap (λ w. constant ++ w) e ∙ sym (append_assoc constant f after))) ∙ sym (append_assoc (take slot.before from) (constant ++ f) after))) in
          let these : HasForm (slot ∷ drop (i + 1) slots) from front_bytes (cell ∷ c) = (constant, f, refl, is, subst (λ w. HasForm (drop (i + 1) slots) w f c) remains h) in
          let found = fits.all front_bytes (cell ∷ c) after whole (subst (λ (ss : List Slot). HasForm ss from front_bytes (cell ∷ c)) (sym next) these) in
          let shorter : now ++ c ≡ cells ++ cell ∷ c = ap (λ w. w ++ c) pushed ∙ append_assoc cells (cell ∷ []) c in
          (found.0, found.1, subst (λ w. HasForm slots text found.0 w) (sym shorter) found.2);
    }

pub fits_last : (slots : List Slot) (text bytes : List ℕ) (i : ℕ) (rest left after cells : List ℕ) → length slots ≤ i → left ≡ rest ++ after → FitsOn slots text bytes i rest left cells → (front : List ℕ) × (bytes ≡ front ++ after) × HasForm slots text front cells
fits_last slots text bytes i rest left after cells end e fits =
    let none : drop i slots ≡ [] = drop_all i slots end in
    let nothing : HasForm [] rest rest [] = (refl, refl) in
    let found = fits.all rest [] after e (subst (λ (ss : List Slot). HasForm ss rest rest []) (sym none) nothing) in
    (found.0, found.1, subst (λ w. HasForm slots text found.0 w) (append-nil cells) found.2)
