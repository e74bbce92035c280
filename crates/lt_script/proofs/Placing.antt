-- From one token to the next in the walk over a text's slots.
use Rattle.std.proofs.Common.{◌≡◌, ℕ, ◌+◌, ◌-◌, ◌≤◌, true, false, List, [], ◌∷◌, ◌++◌, length, Option, Some, None, refl, sym, subst, ◌∙◌, arith}
use Rattle.std.specs.List.{list_all}
use Rattle.std.proofs.lemmas.List.{append-nil}
use Rattle.lt_model.specs.Alike.{Before, plain, after, is_negative}
use Rattle.lt_model.specs.Tokens as tokens
use Rattle.lt_model.specs.Tokens.{Shape, word, number, symbol, sign, is_digit, First}
use Rattle.lt_script.specs.declared.lexer.Lexed.{Lexed}
use Rattle.lt_script.specs.declared.lexer.Lexed.TheVariants.{Token as One, End, Broken}
use Rattle.lt_script.specs.declared.slots.Blank.TheVariants.{Number}
use Rattle.lt_script.specs.declared.slots.Slot.{Slot}
use Rattle.lt_script.specs.declared.token.Token.{Token}
use Rattle.lt_script.specs.Pieces.{Opened, first_at}
use Rattle.lt_script.specs.Placed.{IsDivided, IsNoConstant, IsWritten, StopsDigits, IsChunk, IsToldBy, ArePlaced, IsSlotOf, IsSlotAs}
use Rattle.lt_script.specs.View.{shape}
use Rattle.lt_script.proofs.Chunks.{chunk_number, chunk_symbol}
use Rattle.lt_script.proofs.Constants.{first_digit, found_number, found_symbol, IsNumbered, IsQuoted}
use Rattle.lt_script.proofs.AnyLine.{Goes, goes_so}
use Rattle.lt_script.proofs.Passed.{EndsSo, HasPassed, passed_none, passed_on, ends_too, last_out, decided, TokenGoes, token_goes, all_passed, no_fault}
use Rattle.lt_script.proofs.Walked.{closing, Stops, IsWalked, walk_begins, walk_gap, walk_other, IsConstantAt, walk_constant, walk_ends}

abbrev IsToken : Option First → Shape → List ℕ → Type 0
IsToken o s left = o ≡ Some (tokens.token s left)

-- ---- the constant that is found

stops_left : (text tail digits left : List ℕ) → EndsSo text → HasPassed text tail → IsNumbered digits left tail → StopsDigits left
stops_left text tail digits [] ends h found =
    let same : tail ≡ digits = found.0 ∙ append-nil digits in
    let so : EndsSo tail = ends_too ends.0 h.front tail (λ none. found.1 (sym same ∙ none)) (sym h.parts ∙ ends.1) in
    let yes : list_all is_digit (so.0 ++ 59 ∷ []) ≡ true = subst (λ (us : List ℕ). list_all is_digit us ≡ true) (sym same ∙ so.1) found.2 in
    let not_all : list_all is_digit (so.0 ++ 59 ∷ []) ≡ false = last_out is_digit so.0 59 refl in
    absurd cc
stops_left text tail digits (b ∷ left) ends h found = λ yes. let never : is_digit b ≡ false = found.3 b left refl in absurd cc

abbrev Begins : List ℕ → Type 0
Begins tail = (x : ℕ) × (others : List ℕ) × (tail ≡ x ∷ others) × (is_digit x ≡ true)

begins_so : (tail digits left : List ℕ) → IsNumbered digits left tail → Begins tail
begins_so tail [] left found = absurd (found.1 refl)
begins_so tail (x ∷ digits) left found = (x, digits ++ left, found.0, first_digit x digits found.2)

number_at : (before : Before) (from : ℕ) (text tail digits left : List ℕ) (slot : Slot) → EndsSo text → HasPassed text tail → IsToken (first_at tail) (number digits) left → IsSlotAs slot (number digits) before from (length text - length left) → IsConstantAt before from text tail left slot
number_at before from text tail digits left slot ends h e is = record {
  constant = digits;
  parts = subst (λ k. tail ≡ closing k ++ (digits ++ (closing k ++ left))) (sym is.2) found.0;
  written = subst (λ k. IsWritten k digits) (sym is.2) (found.1, found.2);
  stops = subst (λ k. Stops k left) (sym is.2) (stops_left text tail digits left ends h found);
  chunked = λ chunk ts here goes. subst (λ k. IsChunk k (chunk ++ closing k) ts here) (sym is.2) (subst (λ (us : List ℕ). IsChunk (Number (is_negative before)) us ts here) (sym (append-nil chunk)) (chunk_number (is_negative before) chunk tail first.1 ts here first.0 first.2 first.3 goes));
  told = subst (λ k. IsToldBy before k) (sym is.2) refl;
  long = is.0;
  far = subst (λ k. slot.before ≡ ((length text - length left) - (length digits + length (closing k))) - from) (sym is.2) (omega (arith, is.1));
}
  where
    found : IsNumbered digits left tail
    found = found_number tail digits left e

    first : Begins tail
    first = begins_so tail digits left found

symbol_at : (before : Before) (from : ℕ) (text tail inner left : List ℕ) (slot : Slot) → IsToken (first_at tail) (symbol inner) left → IsSlotAs slot (symbol inner) before from (length text - length left) → IsConstantAt before from text tail left slot
symbol_at before from text tail inner left slot e is = record {
  constant = inner;
  parts = subst (λ k. tail ≡ closing k ++ (inner ++ (closing k ++ left))) (sym is.2) found.0;
  written = subst (λ k. IsWritten k inner) (sym is.2) (found.1, found.2, found.3);
  stops = subst (λ k. Stops k left) (sym is.2) tt;
  chunked = λ chunk ts here goes. subst (λ k. IsChunk k (chunk ++ closing k) ts here) (sym is.2) (chunk_symbol chunk tail (inner ++ 39 ∷ left) ts here found.0 goes);
  told = subst (λ k. IsToldBy before k) (sym is.2) tt;
  long = is.0;
  far = subst (λ k. slot.before ≡ ((length text - length left) - (length inner + length (closing k))) - from) (sym is.2) (omega (arith, is.1));
}
  where
    found : IsQuoted inner left tail
    found = found_symbol tail inner left e

-- ---- a token

-- slots up to where `left` is left, and what was passed
abbrev pub IsAt : List ℕ → List Slot → ℕ → Before → List ℕ → Type 0
IsAt text slots from before left = IsWalked text slots from before left × HasPassed text left

-- what a step gives: after a constant that is `ended`
abbrev IsStep : List ℕ → List Slot → ℕ → Before → List ℕ → Shape → Option Slot → Type 0
IsStep text slots from before left s None = IsAt text slots from (after before s) left
IsStep text slots from before left s (Some slot) = IsAt text (slots ++ slot ∷ []) ((from + slot.before) + slot.len) (after before s) left

over_gap : (text : List ℕ) (slots : List Slot) (from : ℕ) (before : Before) (rest left : List ℕ) (line after_line : ℕ) (found : Lexed) → IsAt text slots from before rest → (o : Opened found line rest after_line left) → line ≤ after_line → IsAt text slots from before o.tail
over_gap text slots from before rest left line after_line found h o down =
    let goes : Goes o.back.front [] (after_line - line) o.tail = goes_so line after_line (after_line - line) o.back.front o.tail [] (omega (arith, down)) o.passes in
    (walk_gap text slots from before rest o.back.front o.tail (after_line - line) h.0 o.back.parts goes, passed_on text rest o.tail o.back.front [] (after_line - line) h.1 o.back.parts goes)

past_token : (text tail left : List ℕ) (s : Shape) → HasPassed text tail → TokenGoes tail s left → HasPassed text left
past_token text tail left s h token = passed_on text tail left token.0 (s ∷ []) 0 h token.1 token.2

step_by : (s : Shape) (o : Option Slot) (text : List ℕ) (slots : List Slot) (from : ℕ) (before : Before) (tail left : List ℕ) → EndsSo text → IsAt text slots from before tail → IsToken (first_at tail) s left → TokenGoes tail s left → IsSlotOf o s before from (length text - length left) → IsStep text slots from before left s o
step_by s None text slots from before tail left ends h e token is = (walk_other text slots from before tail left s h.0 token is, past_token text tail left s h.1 token)
step_by (word x) (Some slot) text slots from before tail left ends h e token is = absurd is
step_by (number x) (Some slot) text slots from before tail left ends h e token is = (walk_constant text slots from before tail left slot h.0 (number_at before from text tail x left slot ends h.1 e is), past_token text tail left (number x) h.1 token)
step_by (symbol x) (Some slot) text slots from before tail left ends h e token is = (walk_constant text slots from before tail left slot h.0 (symbol_at before from text tail x left slot e is), past_token text tail left (symbol x) h.1 token)
step_by (sign x) (Some slot) text slots from before tail left ends h e token is = absurd is

step : (t : Token) (o : Option Slot) (text : List ℕ) (slots : List Slot) (from : ℕ) (before : Before) (rest left : List ℕ) (line after_line : ℕ) → IsDivided text → IsAt text slots from before rest → Opened (One t) line rest after_line left → line ≤ after_line → IsSlotOf o (shape t) before from (length text - length left) → IsStep text slots from before left (shape t) o
step t o text slots from before rest left line after_line divided h opened down is =
    let at : IsAt text slots from before opened.tail = over_gap text slots from before rest left line after_line (One t) h opened down in
    step_by (shape t) o text slots from before opened.tail left divided.3 at opened.is.0 (token_goes opened.tail left (shape t) opened.is.0 (decided text opened.tail left (shape t) divided.3 at.1 opened.is.0)) is

pub step_other : (t : Token) (text : List ℕ) (slots : List Slot) (from : ℕ) (before : Before) (rest left : List ℕ) (line after_line : ℕ) → IsDivided text → IsAt text slots from before rest → Opened (One t) line rest after_line left → line ≤ after_line → IsNoConstant (shape t) → IsAt text slots from (after before (shape t)) left
step_other t text slots from before rest left line after_line divided h opened down is = step t None text slots from before rest left line after_line divided h opened down is

pub step_constant : (t : Token) (slot : Slot) (text : List ℕ) (slots : List Slot) (from : ℕ) (before : Before) (rest left : List ℕ) (line after_line : ℕ) → IsDivided text → IsAt text slots from before rest → Opened (One t) line rest after_line left → line ≤ after_line → IsSlotAs slot (shape t) before from (length text - length left)
    → IsAt text (slots ++ slot ∷ []) ((from + slot.before) + slot.len) (after before (shape t)) left
step_constant t slot text slots from before rest left line after_line divided h opened down is = step t (Some slot) text slots from before rest left line after_line divided h opened down is

-- ---- the end

pub placed_all : (found : Lexed) (text : List ℕ) (slots : List Slot) (from : ℕ) (before : Before) (rest left : List ℕ) (line after_line : ℕ) → ((t : Token) → found ≡ One t → ⊥) → IsDivided text → IsAt text slots from before rest → Opened found line rest after_line left → line ≤ after_line → ArePlaced slots text
placed_all (One t) text slots from before rest left line after_line other divided h opened down = absurd (other t refl)
placed_all End text slots from before rest left line after_line other divided h opened down =
    let at : IsAt text slots from before opened.tail = over_gap text slots from before rest left line after_line End h opened down in
    walk_ends text slots from before (subst (λ (us : List ℕ). IsWalked text slots from before us) (all_passed text opened.tail divided at.1 opened.is) at.0)
placed_all (Broken code) text slots from before rest left line after_line other divided h opened down =
    let at : IsAt text slots from before opened.tail = over_gap text slots from before rest left line after_line (Broken code) h opened down in
    absurd (no_fault text opened.tail code divided at.1 opened.is)

-- ---- as the loop has it

pub at_start : (text : List ℕ) (slots : List Slot) (rest : List ℕ) → slots ≡ [] → rest ≡ text → IsAt text slots 0 plain rest
at_start text slots rest none same = subst (λ (us : List Slot). IsAt text us 0 plain rest) (sym none) (subst (λ (us : List ℕ). IsAt text [] 0 plain us) (sym same) (walk_begins text, passed_none text))

pub at_constant : (t : Token) (slot : Slot) (text : List ℕ) (slots new_slots : List Slot) (from new_from : ℕ) (before new_before : Before) (rest left : List ℕ) (line after_line to : ℕ) → IsDivided text → IsAt text slots from before rest → Opened (One t) line rest after_line left → line ≤ after_line
    → IsSlotAs slot (shape t) before from to → to ≡ length text - length left → new_before ≡ after before (shape t) → new_slots ≡ slots ++ slot ∷ [] → ((from + slot.before) + slot.len ≤ length text → new_from ≡ (from + slot.before) + slot.len) → IsAt text new_slots new_from new_before left
at_constant t slot text slots new_slots from new_from before new_before rest left line after_line to divided h opened down is there same_before same_slots same_from =
    let at : IsAt text (slots ++ slot ∷ []) ((from + slot.before) + slot.len) (after before (shape t)) left =
    step_constant t slot text slots from before rest left line after_line divided h opened down (subst (λ n. IsSlotAs slot (shape t) before from n) there is) in
    subst (λ (us : List Slot). IsAt text us new_from new_before left) (sym same_slots) (subst (λ n. IsAt text (slots ++ slot ∷ []) n new_before left) (sym (same_from at.0.fits)) (subst (λ b. IsAt text (slots ++ slot ∷ []) ((from + slot.before) + slot.len) b left) (sym same_before) at))

pub at_other : (t : Token) (text : List ℕ) (slots new_slots : List Slot) (from new_from : ℕ) (before new_before : Before) (rest left : List ℕ) (line after_line : ℕ) → IsDivided text → IsAt text slots from before rest → Opened (One t) line rest after_line left → line ≤ after_line
    → IsNoConstant (shape t) → new_before ≡ after before (shape t) → new_slots ≡ slots → new_from ≡ from → IsAt text new_slots new_from new_before left
at_other t text slots new_slots from new_from before new_before rest left line after_line divided h opened down is same_before same_slots same_from =
    let at : IsAt text slots from (after before (shape t)) left = step_other t text slots from before rest left line after_line divided h opened down is in
    subst (λ (us : List Slot). IsAt text us new_from new_before left) (sym same_slots) (subst (λ n. IsAt text slots n new_before left) (sym same_from) (subst (λ b. IsAt text slots from b left) (sym same_before) at))
