-- A form's text and what fits it divide into tokens that differ in constants alone.
use Rattle.std.proofs.Common.{◌≡◌, ℕ, ◌+◌, ◌<◌, Bool, true, false, List, [], ◌∷◌, ◌++◌, take, drop, Option, Some, None, refl, sym, ap, subst, ◌∙◌, append_assoc, arith}
use Rattle.std.specs.List.{AllByRecursion}
use Rattle.std.proofs.lemmas.List.{take-append-drop, drop-drop, map-append, append_cancel_right}
use Rattle.lt_model.specs.Alike.{Alike, Same, Before, plain, ended, after, after_all, read_cells}
use Rattle.lt_model.specs.Sentences.{legal, UpTo, greatest, digits_value, signed_cell}
use Rattle.lt_model.specs.Script as script
use Rattle.lt_model.specs.Tokens as tokens
use Rattle.lt_model.specs.Tokens.{Shape, Token, Read, word, number, symbol, sign, tokens_at}
use Rattle.lt_grammar.specs.Grammar.{past}
use Rattle.lt_script.specs.declared.slots.Blank.{Blank}
use Rattle.lt_script.specs.declared.slots.Blank.TheVariants.{Number, Symbol}
use Rattle.lt_script.specs.declared.slots.Slot.{Slot}
use Rattle.lt_script.specs.Forms.{IsConstant, HasForm}
use Rattle.lt_script.specs.Pieces.{Passes}
use Rattle.lt_script.specs.Placed.{Divides, IsNoConstant, IsWritten, constant_shape, StopsDigits, Closes, ClosesLast, before_behind, with_constant, IsChunk, IsToldBy, ArePlacedFrom, ArePlaced}
use Rattle.lt_script.specs.Lexed.{LexesAlike}

-- ---- what closes a constant does so with more behind it

stops_more : (left more : List ℕ) → StopsDigits left → StopsDigits (left ++ more)
stops_more [] more h = absurd h
stops_more (b ∷ left) more h = h

pub closes_more : (blank : Blank) (bytes left more : List ℕ) → Closes blank bytes left → Closes blank (bytes ++ more) (left ++ more)
closes_more (Number minus) bytes left more h = (ap (λ (us : List ℕ). us ++ more) h.0, stops_more left more h.1)
closes_more Symbol bytes left more h = ap (λ (us : List ℕ). us ++ more) h

pub last_more : (last : Option Blank) (bytes left more : List ℕ) → ClosesLast last bytes left → ClosesLast last (bytes ++ more) (left ++ more)
last_more None bytes left more h = ap (λ (us : List ℕ). us ++ more) h
last_more (Some blank) bytes left more h = closes_more blank bytes left more h

-- ---- a chunk, a constant and what is divided behind it

abbrev read_of : List Token → tokens.Ending → Read
read_of ts ending = (ts, ending)

abbrev Front : List ℕ → List Shape → Blank → ℕ → ℕ → Type 0
Front chunk front blank here line =
    (ts : List Token) × (script.shapes ts ≡ front)
    × ((constant behind left : List ℕ) → IsWritten blank constant → Closes blank behind left → tokens_at line (chunk ++ (constant ++ behind)) ≡ with_constant ts (constant_shape blank constant) (line + here) (tokens_at (line + here) left))

joined : (blank : Blank) (chunk constant behind left : List ℕ) (here rest : ℕ) (front others : List Shape) → IsChunk blank chunk front here → IsWritten blank constant → Closes blank behind left → Divides left rest others → Divides (chunk ++ (constant ++ behind)) (here + rest) (front ++ (constant_shape blank constant ∷ others))
unfolding Passes
joined blank chunk constant behind left here rest front others chunked written closes divides = λ line. go line (chunked line) (divides (line + here))
  where
    s : Shape
    s = constant_shape blank constant

    parts : (more : List ℕ) → (chunk ++ (constant ++ behind)) ++ more ≡ chunk ++ (constant ++ (behind ++ more))
    parts more = append_assoc chunk (constant ++ behind) more ∙ ap (λ (us : List ℕ). chunk ++ us) (append_assoc constant behind more)

    go : (line : ℕ) → Front chunk front blank here line → ((ts : List Token) × Passes (line + here) left ts ((line + here) + rest) [] × (script.shapes ts ≡ others)) → (ts : List Token) × Passes line (chunk ++ (constant ++ behind)) ts (line + (here + rest)) [] × (script.shapes ts ≡ front ++ (s ∷ others))
    go line f g = (
      f.0 ++ (record { shape = s; line = line + here } ∷ g.0),
      subst (λ k. Passes line (chunk ++ (constant ++ behind)) (f.0 ++ (record { shape = s; line = line + here } ∷ g.0)) k []) (omega arith)
          (λ more begins. ap (tokens_at line) (parts more) ∙ f.2 constant (behind ++ more) (left ++ more) written (closes_more blank behind left more closes)
          ∙ ap (with_constant f.0 s (line + here)) (g.1 more begins)
          ∙ ap (λ (us : List Token). read_of us (tokens_at ((line + here) + rest) more).1) (sym (append_assoc f.0 (record { shape = s; line = line + here } ∷ g.0) (tokens_at ((line + here) + rest) more).0))),
      map-append (λ (t : Token). t.shape) f.0 (record { shape = s; line = line + here } ∷ g.0) ∙ ap (λ (us : List Shape). us ++ (s ∷ script.shapes g.0)) f.1 ∙ ap (λ (us : List Shape). front ++ (s ∷ us)) g.2,
    )

-- ---- tokens that differ in constants alone

alike_same : (ts : List Shape) → AllByRecursion IsNoConstant ts → Alike legal ts ts
alike_same [] h = refl
alike_same (word x ∷ ts) h = (refl, alike_same ts h.1)
alike_same (number x ∷ ts) h = absurd h.0
alike_same (symbol x ∷ ts) h = absurd h.0
alike_same (sign x ∷ ts) h = (refl, alike_same ts h.1)

alike_on : (ts us vs : List Shape) → AllByRecursion IsNoConstant ts → Alike legal us vs → Alike legal (ts ++ us) (ts ++ vs)
alike_on [] us vs h k = k
alike_on (word x ∷ ts) us vs h k = (refl, alike_on ts us vs h.1 k)
alike_on (number x ∷ ts) us vs h k = absurd h.0
alike_on (symbol x ∷ ts) us vs h k = absurd h.0
alike_on (sign x ∷ ts) us vs h k = (refl, alike_on ts us vs h.1 k)

in_range : (minus : Bool) (n : ℕ) → n < past false → UpTo legal (greatest minus) n
in_range true n h = omega (arith, h)
in_range false n h = omega (arith, h)

constants_same : (blank : Blank) (own other : List ℕ) (cell : ℕ) → IsConstant blank other cell → Same legal (constant_shape blank own) (constant_shape blank other)
constants_same (Number minus) own other cell h = (other, refl, λ m. in_range m (digits_value other) h.2)
constants_same Symbol own other cell h = (other, refl)

constant_written : (blank : Blank) (text : List ℕ) (cell : ℕ) → IsConstant blank text cell → IsWritten blank text
constant_written (Number minus) text cell h = (h.0, h.1)
constant_written Symbol text cell h = (h.0, h.1, h.2)

-- ---- the cells that tokens tell

reads_on : (b : Before) (ts us : List Shape) → AllByRecursion IsNoConstant ts → read_cells b (ts ++ us) ≡ read_cells (after_all b ts) us
reads_on b [] us h = refl
reads_on b (word x ∷ ts) us h = reads_on (after b (word x)) ts us h.1
reads_on b (number x ∷ ts) us h = absurd h.0
reads_on b (symbol x ∷ ts) us h = absurd h.0
reads_on b (sign x ∷ ts) us h = reads_on (after b (sign x)) ts us h.1

reads_none : (b : Before) (ts : List Shape) → AllByRecursion IsNoConstant ts → read_cells b ts ≡ []
reads_none b [] h = refl
reads_none b (word x ∷ ts) h = reads_none (after b (word x)) ts h.1
reads_none b (number x ∷ ts) h = absurd h.0
reads_none b (symbol x ∷ ts) h = absurd h.0
reads_none b (sign x ∷ ts) h = reads_none (after b (sign x)) ts h.1

reads_one : (b : Before) (blank : Blank) (text : List ℕ) (cell : ℕ) (us : List Shape) → IsToldBy b blank → IsConstant blank text cell → read_cells b (constant_shape blank text ∷ us) ≡ cell ∷ read_cells ended us
reads_one b (Number minus) text cell us told h = ap (λ c. c ∷ read_cells ended us) (sym (h.3 ∙ ap (λ m. signed_cell m (digits_value text)) told))
reads_one b Symbol text cell us told h = ap (λ c. c ∷ read_cells ended us) (sym h.3)

-- ---- slot by slot

-- what is left behind the constant before: its tokens, and those of each text that fits
abbrev LexesFrom : Option Blank → List Slot → List ℕ → ℕ → Type 0
LexesFrom last slots text lines =
    (left : List ℕ) × (ts : List Shape) × ClosesLast last text left × Divides left lines ts
    × ((bytes cells : List ℕ) → HasForm slots text bytes cells → (others : List ℕ) × (us : List Shape) × ClosesLast last bytes others × Divides others lines us × Alike legal ts us × (read_cells (before_behind last) us ≡ cells))

lexed_from : (last : Option Blank) (slots : List Slot) (text : List ℕ) (lines : ℕ) → ArePlacedFrom last slots text lines → LexesFrom last slots text lines
lexed_from last [] text lines (left, ts, closes, divides, others) =
    (left, ts, closes, divides, λ bytes cells h. (left, ts, subst (λ (us : List ℕ). ClosesLast last us left) (sym h.0) closes, divides, alike_same ts others, reads_none (before_behind last) ts others ∙ sym h.1))
lexed_from last (slot ∷ slots) text lines (here, behind, sum, placed, others) = subst (LexesFrom last (slot ∷ slots) text) (sym sum) (go (lexed_from (Some slot.blank) slots rest behind others))
  where
    rest : List ℕ
    rest = drop (slot.before + slot.len) text

    own : List ℕ
    own = take slot.len (drop slot.before text)

    parts : text ≡ take slot.before text ++ (own ++ rest)
    parts = sym (take-append-drop slot.before text) ∙ ap (λ (us : List ℕ). take slot.before text ++ us) (sym (take-append-drop slot.len (drop slot.before text)) ∙ ap (λ (us : List ℕ). own ++ us) (drop-drop slot.len slot.before text))

    go : LexesFrom (Some slot.blank) slots rest behind → LexesFrom last (slot ∷ slots) text (here + behind)
    go (left, ts, closes, divides, each) = (
      placed.chunk ++ (own ++ rest),
      placed.tokens ++ (constant_shape slot.blank own ∷ ts),
      subst (λ (us : List ℕ). ClosesLast last us (placed.chunk ++ (own ++ rest))) (sym parts) (last_more last (take slot.before text) placed.chunk (own ++ rest) placed.closes),
      joined slot.blank placed.chunk own rest left here behind placed.tokens ts placed.chunked placed.written closes divides,
      λ bytes cells h. fits bytes cells h,
    )
      where
        fits : (bytes cells : List ℕ) → HasForm (slot ∷ slots) text bytes cells → (others : List ℕ) × (us : List Shape) × ClosesLast last bytes others × Divides others (here + behind) us × Alike legal (placed.tokens ++ (constant_shape slot.blank own ∷ ts)) us × (read_cells (before_behind last) us ≡ cells)
        fits bytes [] h = absurd h
        fits bytes (cell ∷ cells) (constant, after, is, written, more) = found (each after cells more)
          where
            found : ((others : List ℕ) × (us : List Shape) × Closes slot.blank after others × Divides others behind us × Alike legal ts us × (read_cells ended us ≡ cells)) → (others : List ℕ) × (us : List Shape) × ClosesLast last bytes others × Divides others (here + behind) us × Alike legal (placed.tokens ++ (constant_shape slot.blank own ∷ ts)) us × (read_cells (before_behind last) us ≡ cell ∷ cells)
            found (others, us, ends, division, alike, reads) = (
              placed.chunk ++ (constant ++ after),
              placed.tokens ++ (constant_shape slot.blank constant ∷ us),
              subst (λ (vs : List ℕ). ClosesLast last vs (placed.chunk ++ (constant ++ after))) (sym is) (last_more last (take slot.before text) placed.chunk (constant ++ after) placed.closes),
              joined slot.blank placed.chunk constant after others here behind placed.tokens us placed.chunked (constant_written slot.blank constant cell written) ends division,
              alike_on placed.tokens (constant_shape slot.blank own ∷ ts) (constant_shape slot.blank constant ∷ us) placed.others (constants_same slot.blank own constant cell written, alike),
              reads_on (before_behind last) placed.tokens (constant_shape slot.blank constant ∷ us) placed.others ∙ reads_one (after_all (before_behind last) placed.tokens) slot.blank constant cell us placed.told written ∙ ap (λ (cs : List ℕ). cell ∷ cs) reads,
            )

pub lexed_alike : (slots : List Slot) (text : List ℕ) → ArePlaced slots text → LexesAlike slots text
lexed_alike slots text (lines, placed) = go (lexed_from None slots text lines placed)
  where
    go : LexesFrom None slots text lines → LexesAlike slots text
    go (left, ts, closes, divides, each) = (lines, ts, subst (λ (us : List ℕ). Divides us lines ts) (sym closes) divides, λ bytes cells h. found bytes cells (each bytes cells h))
      where
        found : (bytes cells : List ℕ) → ((others : List ℕ) × (us : List Shape) × ClosesLast None bytes others × Divides others lines us × Alike legal ts us × (read_cells plain us ≡ cells)) → (us : List Shape) × Divides bytes lines us × Alike legal ts us × (read_cells plain us ≡ cells)
        found bytes cells (others, us, same, division, alike, reads) = (us, subst (λ (vs : List ℕ). Divides vs lines us) (sym same) division, alike, reads)

-- a text divides in one way
pub divides_once : (bytes : List ℕ) (lines others : ℕ) (ts us : List Shape) → Divides bytes lines ts → Divides bytes others us → (lines ≡ others) × (ts ≡ us)
unfolding Passes
divides_once bytes lines others ts us a b = go (a 0) (b 0)
  where
    ending_line : tokens.Ending → ℕ
    ending_line (tokens.finished line) = line
    ending_line (tokens.broken line code) = line

    go : ((vs : List Token) × Passes 0 bytes vs (0 + lines) [] × (script.shapes vs ≡ ts)) → ((vs : List Token) × Passes 0 bytes vs (0 + others) [] × (script.shapes vs ≡ us)) → (lines ≡ others) × (ts ≡ us)
    go f g =
        let reads : read_of (f.0 ++ []) (tokens.finished (0 + lines)) ≡ read_of (g.0 ++ []) (tokens.finished (0 + others)) = sym (f.1 [] tt) ∙ g.1 [] tt in
        (omega (arith, ap (λ (r : Read). ending_line r.1) reads), sym f.2 ∙ ap script.shapes (append_cancel_right f.0 g.0 [] (ap (λ (r : Read). r.0) reads)) ∙ g.2)
