-- Bytes have a reading, also behind items that were read: the next item is read until the reader stops.
use Rattle.std.proofs.Common.{◌≡◌, ◌≢◌, ℕ, zero, suc, ◌≤◌, ◌<◌, List, [], ◌∷◌, ◌++◌, length, Ok, Err, refl, sym, ap, subst, ◌∙◌, append_assoc, arith}
use Rattle.std.proofs.lemmas.List.{append-nil, length-append, length-map, map-append}
use Rattle.lt_reading.specs.Reading.{Outcome, Stop}
use Rattle.lt_reading.specs.Faults.{code_of}
use Rattle.lt_model.specs.declared.syntax.Item.{Item}
use Rattle.lt_model.specs.Tokens.{Shape, Token, Ending, Read, finished, broken, tokens}
use Rattle.lt_model.specs.Grammar.{legal, Derives}
use Rattle.lt_model.specs.Faults as faults
use Rattle.lt_model.specs.Script as script
use Rattle.lt_model.specs.Script.{Script}
use Rattle.lt_grammar.specs.Grammar as tree
use Rattle.lt_grammar.specs.Meaning.{item_value}
use Rattle.lt_grammar.specs.Productions.{item_at}
use Rattle.lt_grammar.proofs.Items.{Stopped, item_found, item_stops, nothing_left, Derives-more}
use Rattle.lt_script.specs.Ahead.{ahead, passed_tokens}
use Rattle.lt_script.specs.declared.reader.Reader.{Reader}
use Rattle.lt_script.specs.Laws.{SomeReading}
use Rattle.lt_script.specs.Reading.{bytes_of, HasRead}
use Rattle.lt_script.proofs.Reading.{is_all}
use Rattle.lt_script.proofs.Places.{parts}
use Rattle.lt_script.proofs.Reading.{SpellsItem-some}

-- the bytes have a reading that begins with these items
pub record BeginsReading (bytes : List ℕ) (items : List Item) : Type 0 where
  pub more : List Item
  pub close : script.Close
  pub is_script : Script bytes (items ++ more) close

-- no item more
closes : (bytes : List ℕ) (items : List Item) (close : script.Close) → Script bytes items close → BeginsReading bytes items
closes bytes items close s = record { more = []; close = close; is_script = subst (λ (is : List Item). Script bytes is close) (sym (append-nil items)) s }

abbrev read_of : List Token → Ending → Read
read_of ts ending = (ts, ending)

-- ---- tokens that have these shapes, in two parts

record Split (ts : List Token) (front rest : List Shape) : Type 0 where
  pub first : List Token
  pub others : List Token
  pub are : ts ≡ first ++ others
  pub front_is : script.shapes first ≡ front
  pub rest_is : script.shapes others ≡ rest

split : (ts : List Token) (front rest : List Shape) → script.shapes ts ≡ front ++ rest → Split ts front rest
split ts [] rest e = record { first = []; others = ts; are = refl; front_is = refl; rest_is = e }
split [] (s ∷ front) rest e = absurd cc
split (t ∷ ts) (s ∷ front) rest e =
    let same : t.shape ≡ s = cc in
    let behind : script.shapes ts ≡ front ++ rest = cc in
    let more = split ts front rest behind in
    record {
      first = t ∷ more.first;
      others = more.others;
      are = ap (λ (us : List Token). t ∷ us) more.are;
      front_is = ap (λ (u : Shape). u ∷ script.shapes more.first) same ∙ ap (λ (us : List Shape). s ∷ us) more.front_is;
      rest_is = more.rest_is;
    }

shapes_further : (passed front : List Token) (us : List Shape) → script.shapes front ≡ us → script.shapes (passed ++ front) ≡ script.shapes passed ++ us
shapes_further passed front us is = map-append (λ (t : Token). t.shape) passed front ∙ ap (λ (s : List Shape). script.shapes passed ++ s) is

-- the tokens of the bytes, where some of the rest are passed too
further : (bytes : List ℕ) (passed ts front others : List Token) (ending : Ending) → tokens bytes ≡ read_of (passed ++ ts) ending → ts ≡ front ++ others → tokens bytes ≡ read_of ((passed ++ front) ++ others) ending
further bytes passed ts front others ending e are =
    e ∙ ap (λ (us : List Token). read_of (passed ++ us) ending) are ∙ ap (λ (us : List Token). read_of us ending) (sym (append_assoc passed front others))

-- ---- behind tokens that are these items

-- no token is left
none_left : (bytes : List ℕ) (passed : List Token) (items : List Item) (ending : Ending) → Derives legal (script.shapes passed) items → tokens bytes ≡ read_of passed ending → BeginsReading bytes items
none_left bytes passed items (finished line) d e = closes bytes items script.End (script.ended passed line items e d)
none_left bytes passed items (broken line code) d e = closes bytes items (script.Fault line code) (script.torn passed line code items [] e (nothing_left (script.shapes passed) items d))

-- the reader stopped: at a token, at the end, or before a broken token
stops_at : (bytes : List ℕ) (behind others : List Token) (items : List Item) (left rest : List Shape) (code : ℕ) (ending : Ending) → tokens bytes ≡ read_of (behind ++ others) ending
    → script.Stops (script.shapes behind) items left → ((t : Shape) (after : List Shape) → rest ≡ t ∷ after → faults.Faulty (script.shapes behind) t code) → (rest ≡ [] → left ≢ []) → script.shapes others ≡ rest
    → BeginsReading bytes items
stops_at bytes behind [] items left rest code (finished line) e s fault some is =
    closes bytes items (script.Fault line 7) (script.cut behind line items left (e ∙ ap (λ (us : List Token). read_of us (finished line)) (append-nil behind)) s (some (sym is)))
stops_at bytes behind [] items left rest code (broken line c) e s fault some is =
    closes bytes items (script.Fault line c) (script.torn behind line c items left (e ∙ ap (λ (us : List Token). read_of us (broken line c)) (append-nil behind)) s)
stops_at bytes behind (t ∷ after) items left rest code ending e s fault some is =
    closes bytes items (script.Fault t.line code) (script.faulty behind t after ending code items left e s (fault t.shape (script.shapes after) (sym is)))

stops : (bytes : List ℕ) (passed ts : List Token) (items : List Item) (ending : Ending) (stop : Stop Shape) → tokens bytes ≡ read_of (passed ++ ts) ending → Stopped (script.shapes passed) (script.shapes ts) items stop → BeginsReading bytes items
stops bytes passed ts items ending stop e k =
    let s = split ts k.left stop.rest k.parts in
    let behind : script.shapes (passed ++ s.first) ≡ script.shapes passed ++ k.left = shapes_further passed s.first k.left s.front_is in
    stops_at bytes (passed ++ s.first) s.others items k.left stop.rest (code_of stop.cause) ending (further bytes passed ts s.first s.others ending e s.are)
    (subst (λ (us : List Shape). script.Stops us items k.left) (sym behind) k.stops)
    (λ t after is. subst (λ (us : List Shape). faults.Faulty us t (code_of stop.cause)) (sym behind) (k.fault t after is))
    k.some s.rest_is

-- an item has a token, so that fewer are left behind it
fewer : (ts : List Token) (front rest : List Shape) (s : Split ts front rest) → 1 ≤ length front → length s.others < length ts
fewer ts front rest s some =
    let all : length ts ≡ length (s.first ++ s.others) = ap (λ (us : List Token). length us) s.are in
    let first : length (script.shapes s.first) ≡ length front = ap (λ (us : List Shape). length us) s.front_is in
    omega (arith, all, first, some, length-append s.first s.others, length-map s.first (λ (t : Token). t.shape))

-- what is read behind an item, from the tokens behind it
abbrev Further : ℕ → List ℕ → Type 0
Further n bytes = (passed ts : List Token) (items : List Item) (ending : Ending) → length ts ≤ n → tokens bytes ≡ read_of (passed ++ ts) ending → Derives legal (script.shapes passed) items → BeginsReading bytes items

-- the reader read an item, or it stopped
by_outcome : (n : ℕ) (bytes : List ℕ) → Further n bytes → (passed : List Token) (t : Token) (ts : List Token) (items : List Item) (ending : Ending) → length (t ∷ ts) ≤ suc n
    → tokens bytes ≡ read_of (passed ++ (t ∷ ts)) ending → Derives legal (script.shapes passed) items → (o : Outcome Shape tree.Item) → item_at (script.shapes (t ∷ ts)) ≡ o → BeginsReading bytes items
by_outcome n bytes more passed t ts items ending few e d (Ok (item, rest)) is =
    let f = item_found (script.shapes (t ∷ ts)) item rest is in
    let s = split (t ∷ ts) f.front rest f.parts in
    let derived : Derives legal (script.shapes (passed ++ s.first)) (items ++ item_value item ∷ []) =
    subst (λ (us : List Shape). Derives legal us (items ++ item_value item ∷ [])) (sym (shapes_further passed s.first f.front s.front_is)) (Derives-more (script.shapes passed) f.front items (item_value item) d f.spelled) in
    let less : length s.others < length (t ∷ ts) = fewer (t ∷ ts) f.front rest s (SpellsItem-some (item_value item) f.front f.spelled) in
    let x = more (passed ++ s.first) s.others (items ++ item_value item ∷ []) ending (omega (arith, less, few)) (further bytes passed (t ∷ ts) s.first s.others ending e s.are) derived in
    record {
      more = item_value item ∷ x.more;
      close = x.close;
      is_script = subst (λ (is : List Item). Script bytes is x.close) (append_assoc items (item_value item ∷ []) x.more) x.is_script;
    }
by_outcome n bytes more passed t ts items ending few e d (Err stop) is = stops bytes passed (t ∷ ts) items ending stop e (item_stops (script.shapes passed) (script.shapes (t ∷ ts)) items stop d (λ none. absurd cc) is)

-- from there on
pub goes_on : (n : ℕ) (bytes : List ℕ) → Further n bytes
goes_on n bytes passed [] items ending few e d = none_left bytes passed items ending d (e ∙ ap (λ (us : List Token). read_of us ending) (append-nil passed))
goes_on zero bytes passed (t ∷ ts) items ending few e d = absurd (omega arith)
goes_on (suc n) bytes passed (t ∷ ts) items ending few e d = by_outcome n bytes (goes_on n bytes) passed t ts items ending few e d (item_at (script.shapes (t ∷ ts))) refl

-- from the place of a reader on
pub reads_on : (r : Reader) (items : List Item) → HasRead r items → BeginsReading (bytes_of r) items
reads_on r items d = let p = r.cursor in goes_on (length (ahead p).0) p.source.bytes (passed_tokens p) (ahead p).0 items (ahead p).1 (omega arith) (is_all p.source d.line ∙ parts p) d.derived

pub some_reading : SomeReading
some_reading bytes = let x = goes_on (length (tokens bytes).0) bytes [] (tokens bytes).0 [] (tokens bytes).1 (omega arith) refl refl in (x.more, x.close, x.is_script)
