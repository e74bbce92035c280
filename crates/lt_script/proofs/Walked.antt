-- The places of constants in a text, up to where a lexer stands.
use Rattle.std.proofs.Common.{◌≡◌, ℕ, ◌+◌, ◌-◌, ◌≤◌, List, [], ◌∷◌, ◌++◌, length, take, drop, Option, Some, None, refl, sym, ap, subst, ◌∙◌, append_assoc, arith}
use Rattle.std.specs.List.{AllByRecursion}
use Rattle.std.proofs.lemmas.List.{append-nil, length-append, length-drop, take_at, drop_at, drop-drop}
use Rattle.lt_model.specs.Alike.{Before, plain, ended, after, after_all}
use Rattle.lt_model.specs.Tokens.{Shape}
use Rattle.lt_script.specs.declared.slots.Blank.{Blank}
use Rattle.lt_script.specs.declared.slots.Blank.TheVariants.{Number, Symbol}
use Rattle.lt_script.specs.declared.slots.Slot.{Slot}
use Rattle.lt_script.specs.Placed.{Divides, IsNoConstant, IsWritten, StopsDigits, Closes, ClosesLast, before_behind, IsChunk, IsToldBy, IsPlaced, ArePlacedFrom, ArePlaced}
use Rattle.lt_script.proofs.Constants.{first_digit}
use Rattle.lt_script.proofs.AnyLine.{Goes, goes_none, goes_on as goes_further}
use Rattle.lt_script.proofs.Passed.{TokenGoes}

-- ---- what stands on both sides of a constant

abbrev pub closing : Blank → List ℕ
closing (Number minus) = []
closing Symbol = 39 ∷ []

abbrev pub closing_last : Option Blank → List ℕ
closing_last None = []
closing_last (Some blank) = closing blank

abbrev pub Stops : Blank → List ℕ → Type 0
Stops (Number minus) left = StopsDigits left
Stops Symbol left = Unit {0}

abbrev pub StopsLast : Option Blank → List ℕ → Type 0
StopsLast None left = Unit {0}
StopsLast (Some blank) left = Stops blank left

closes_so : (blank : Blank) (left : List ℕ) → Stops blank left → Closes blank (closing blank ++ left) left
closes_so (Number minus) left h = (refl, h)
closes_so Symbol left h = refl

closes_last : (last : Option Blank) (left : List ℕ) → StopsLast last left → ClosesLast last (closing_last last ++ left) left
closes_last None left h = refl
closes_last (Some blank) left h = closes_so blank left h

no_digit_first : (blank : Blank) (chunk constant behind : List ℕ) → IsWritten blank constant → StopsDigits (chunk ++ (closing blank ++ (constant ++ behind))) → StopsDigits (chunk ++ closing blank)
no_digit_first blank (x ∷ chunk) constant behind written h = h
no_digit_first Symbol [] constant behind written h = h
no_digit_first (Number minus) [] [] behind written h = absurd (written.0 refl)
no_digit_first (Number minus) [] (c ∷ constant) behind written h = absurd (h (first_digit c constant written.1))

stops_before : (last : Option Blank) (blank : Blank) (chunk constant behind : List ℕ) → IsWritten blank constant → StopsLast last (chunk ++ (closing blank ++ (constant ++ behind))) → StopsLast last (chunk ++ closing blank)
stops_before None blank chunk constant behind written h = tt
stops_before (Some (Number minus)) blank chunk constant behind written h = no_digit_first blank chunk constant behind written h
stops_before (Some Symbol) blank chunk constant behind written h = tt

-- ---- a walk

-- the slots of a text up to where `rest` is left, the last of which ends so many bytes behind its beginning, and what is told of the tokens before
pub record IsWalked (text : List ℕ) (slots : List Slot) (from : ℕ) (before : Before) (rest : List ℕ) : Type 0 where
  pub last : Option Blank
  pub gone : ℕ
  pub so_far : (more : List Slot) (behind : ℕ) → ArePlacedFrom last more (drop from text) behind → ArePlacedFrom None (slots ++ more) text (gone + behind)
  pub chunk : List ℕ
  pub tokens : List Shape
  pub here : ℕ
  pub fits : from ≤ length text
  pub parts : drop from text ≡ closing_last last ++ (chunk ++ rest)
  pub stops : StopsLast last (chunk ++ rest)
  pub goes : Goes chunk tokens here rest
  pub others : AllByRecursion IsNoConstant tokens
  pub told : before ≡ after_all (before_behind last) tokens

pub walk_begins : (text : List ℕ) → IsWalked text [] 0 plain text
walk_begins text = record {
  last = None;
  gone = 0;
  so_far = λ more behind h. subst (ArePlacedFrom None more text) (omega arith) h;
  chunk = [];
  tokens = [];
  here = 0;
  fits = omega arith;
  parts = refl;
  stops = tt;
  goes = goes_none text;
  others = tt;
  told = refl;
}

both_none : (ts us : List Shape) → AllByRecursion IsNoConstant ts → AllByRecursion IsNoConstant us → AllByRecursion IsNoConstant (ts ++ us)
both_none [] us h k = k
both_none (t ∷ ts) us h k = (h.0, both_none ts us h.1 k)

told_on : (b : Before) (ts us : List Shape) → after_all b (ts ++ us) ≡ after_all (after_all b ts) us
told_on b [] us = refl
told_on b (t ∷ ts) us = told_on (after b t) ts us

-- over bytes that hold no constant
walk_on : (text : List ℕ) (slots : List Slot) (from : ℕ) (before : Before) (rest front left : List ℕ) (ts : List Shape) (lines : ℕ) → IsWalked text slots from before rest → rest ≡ front ++ left → Goes front ts lines left → AllByRecursion IsNoConstant ts → IsWalked text slots from (after_all before ts) left
walk_on text slots from before rest front left ts lines w parts goes others =
    let same : w.chunk ++ rest ≡ (w.chunk ++ front) ++ left = ap (λ (us : List ℕ). w.chunk ++ us) parts ∙ sym (append_assoc w.chunk front left) in
    record {
      last = w.last;
      gone = w.gone;
      so_far = w.so_far;
      chunk = w.chunk ++ front;
      tokens = w.tokens ++ ts;
      here = w.here + lines;
      fits = w.fits;
      parts = w.parts ∙ ap (λ (us : List ℕ). closing_last w.last ++ us) same;
      stops = subst (StopsLast w.last) same w.stops;
      goes = goes_further left rest (w.chunk ++ rest) w.chunk front w.tokens ts w.here lines refl parts w.goes goes;
      others = both_none w.tokens ts w.others others;
      told = ap (λ b. after_all b ts) w.told ∙ sym (told_on (before_behind w.last) w.tokens ts);
    }

pub walk_gap : (text : List ℕ) (slots : List Slot) (from : ℕ) (before : Before) (rest front left : List ℕ) (lines : ℕ) → IsWalked text slots from before rest → rest ≡ front ++ left → Goes front [] lines left → IsWalked text slots from before left
walk_gap text slots from before rest front left lines w parts goes = walk_on text slots from before rest front left [] lines w parts goes tt

pub walk_other : (text : List ℕ) (slots : List Slot) (from : ℕ) (before : Before) (tail left : List ℕ) (s : Shape) → IsWalked text slots from before tail → TokenGoes tail s left → IsNoConstant s → IsWalked text slots from (after before s) left
walk_other text slots from before tail left s w token plain_shape = walk_on text slots from before tail token.0 left (s ∷ []) 0 w token.1 token.2 (plain_shape, tt)

-- ---- over a constant

-- the constant before which the walk stands, and the slot that it gets
pub record IsConstantAt (before : Before) (from : ℕ) (text tail left : List ℕ) (slot : Slot) : Type 0 where
  pub constant : List ℕ
  pub parts : tail ≡ closing slot.blank ++ (constant ++ (closing slot.blank ++ left))
  pub written : IsWritten slot.blank constant
  pub stops : Stops slot.blank left
  pub chunked : (chunk : List ℕ) (ts : List Shape) (here : ℕ) → Goes chunk ts here tail → IsChunk slot.blank (chunk ++ closing slot.blank) ts here
  pub told : IsToldBy before slot.blank
  pub long : slot.len ≡ length constant
  pub far : slot.before ≡ ((length text - length left) - (length constant + length (closing slot.blank))) - from

module _ (text : List ℕ) (slots : List Slot) (from : ℕ) (before : Before) (tail left : List ℕ) (slot : Slot) (w : IsWalked text slots from before tail) (c : IsConstantAt before from text tail left slot) where
  abbrev before_it : List ℕ
  before_it = closing_last w.last ++ (w.chunk ++ closing slot.blank)

  abbrev behind_it : List ℕ
  behind_it = closing slot.blank ++ left

  whole : drop from text ≡ before_it ++ (c.constant ++ behind_it)
  whole =
      w.parts ∙ ap (λ (us : List ℕ). closing_last w.last ++ (w.chunk ++ us)) c.parts
      ∙ ap (λ (us : List ℕ). closing_last w.last ++ us) (sym (append_assoc w.chunk (closing slot.blank) (c.constant ++ behind_it)))
      ∙ sym (append_assoc (closing_last w.last) (w.chunk ++ closing slot.blank) (c.constant ++ behind_it))

  far : slot.before ≡ length before_it
  far =
      let all : length (drop from text) ≡ length (before_it ++ (c.constant ++ behind_it)) = ap (λ (us : List ℕ). length us) whole in
      omega (arith, all, c.far, w.fits, length-drop from text, length-append before_it (c.constant ++ behind_it), length-append c.constant behind_it, length-append (closing slot.blank) left)

  chunk_taken : take slot.before (drop from text) ≡ before_it
  chunk_taken = ap (λ (us : List ℕ). take slot.before us) whole ∙ take_at before_it (c.constant ++ behind_it) slot.before (sym far)

  constant_dropped : drop slot.before (drop from text) ≡ c.constant ++ behind_it
  constant_dropped = ap (λ (us : List ℕ). drop slot.before us) whole ∙ drop_at before_it (c.constant ++ behind_it) slot.before (sym far)

  constant_taken : take slot.len (drop slot.before (drop from text)) ≡ c.constant
  constant_taken = ap (λ (us : List ℕ). take slot.len us) constant_dropped ∙ take_at c.constant behind_it slot.len (sym c.long)

  rest_dropped : drop (slot.before + slot.len) (drop from text) ≡ behind_it
  rest_dropped = sym (drop-drop slot.len slot.before (drop from text)) ∙ ap (λ (us : List ℕ). drop slot.len us) constant_dropped ∙ drop_at c.constant behind_it slot.len (sym c.long)

  rest_same : drop (slot.before + slot.len) (drop from text) ≡ drop ((from + slot.before) + slot.len) text
  rest_same = drop-drop (slot.before + slot.len) from text ∙ ap (λ n. drop n text) (omega arith)

  placed : IsPlaced w.last slot (drop from text) w.here
  placed = record {
    chunk = w.chunk ++ closing slot.blank;
    tokens = w.tokens;
    closes = subst (λ (us : List ℕ). ClosesLast w.last us (w.chunk ++ closing slot.blank)) (sym chunk_taken)
        (closes_last w.last (w.chunk ++ closing slot.blank) (stops_before w.last slot.blank w.chunk c.constant behind_it c.written (subst (λ (us : List ℕ). StopsLast w.last (w.chunk ++ us)) c.parts w.stops)));
    others = w.others;
    chunked = c.chunked w.chunk w.tokens w.here w.goes;
    told = subst (λ b. IsToldBy b slot.blank) w.told c.told;
    written = subst (IsWritten slot.blank) (sym constant_taken) c.written;
  }

  pub walk_constant : IsWalked text (slots ++ slot ∷ []) ((from + slot.before) + slot.len) ended left
  walk_constant = record {
    last = Some slot.blank;
    gone = w.gone + w.here;
    so_far = λ more behind h. further more behind h;
    chunk = [];
    tokens = [];
    here = 0;
    fits = short;
    parts = sym rest_same ∙ rest_dropped;
    stops = c.stops;
    goes = goes_none left;
    others = tt;
    told = refl;
  }
    where
      short : (from + slot.before) + slot.len ≤ length text
      short =
          let all : length (drop from text) ≡ length (before_it ++ (c.constant ++ behind_it)) = ap (λ (us : List ℕ). length us) whole in
          omega (arith, all, far, c.long, w.fits, length-drop from text, length-append before_it (c.constant ++ behind_it), length-append c.constant behind_it)

      further : (more : List Slot) (behind : ℕ) → ArePlacedFrom (Some slot.blank) more (drop ((from + slot.before) + slot.len) text) behind → ArePlacedFrom None ((slots ++ slot ∷ []) ++ more) text ((w.gone + w.here) + behind)
      further more behind h =
          let there : ArePlacedFrom None (slots ++ slot ∷ more) text (w.gone + (w.here + behind)) =
          w.so_far (slot ∷ more) (w.here + behind) (w.here, behind, refl, placed, subst (λ (us : List ℕ). ArePlacedFrom (Some slot.blank) more us behind) (sym rest_same) h) in
          subst (λ n. ArePlacedFrom None ((slots ++ slot ∷ []) ++ more) text n) (omega arith) (subst (λ (us : List Slot). ArePlacedFrom None us text (w.gone + (w.here + behind))) (sym (append_assoc slots (slot ∷ []) more)) there)

-- ---- the end

pub walk_ends : (text : List ℕ) (slots : List Slot) (from : ℕ) (before : Before) → IsWalked text slots from before [] → ArePlaced slots text
walk_ends text slots from before w =
    let all : List ℕ = w.chunk ++ [] in
    let same : w.chunk ≡ all = sym (append-nil w.chunk) in
    let closes : ClosesLast w.last (drop from text) all = subst (λ (us : List ℕ). ClosesLast w.last us all) (sym w.parts) (closes_last w.last all w.stops) in
    let divides : Divides all w.here w.tokens = subst (λ (us : List ℕ). Divides us w.here w.tokens) same w.goes in
    (w.gone + w.here, subst (λ (us : List Slot). ArePlacedFrom None us text (w.gone + w.here)) (append-nil slots) (w.so_far [] w.here (all, w.tokens, closes, divides, w.others)))
