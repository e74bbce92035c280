-- What a reader finds, and where a script ends.
use Rattle.std.proofs.Common.{◌≡◌, ◌≢◌, ℕ, ◌≤◌, ◌<◌, List, [], ◌∷◌, ◌++◌, length, refl, sym, ap, subst, ◌∙◌, append_assoc, arith}
use Rattle.std.proofs.lemmas.List.{length-append, length-map, append-nil, map-append}
use Rattle.lt_model.specs.declared.syntax.Item.{Item}
use Rattle.lt_model.specs.declared.syntax.Item.TheVariants.{Relation, Batch, Show}
use Rattle.lt_model.specs.Tokens.{Shape, Token, Ending, Read, finished, broken, tokens, tokens_at}
use Rattle.lt_model.specs.Grammar.{legal, SpellsItem, Derives}
use Rattle.lt_model.specs.Faults.{Faulty}
use Rattle.lt_model.specs.Script as script
use Rattle.lt_grammar.proofs.Items.{Derives-more}
use Rattle.lt_script.specs.Ahead.{Source, read_all, Place, ahead, shapes, passed_tokens}
use Rattle.lt_script.specs.Taken.{HaltsAt, at_token, cut, torn, Takes, Halts, IsTaken}
use Rattle.lt_script.specs.declared.reader.Reader.{Reader}
use Rattle.lt_script.specs.declared.step.Step.{Step}
use Rattle.lt_script.specs.declared.step.Step.TheVariants as steps
use Rattle.lt_script.specs.Reading.{bytes_of, HasRead, Reads, IsNext}
use Rattle.lt_script.proofs.Places.{parts, passed_more}

abbrev read_of : List Token → Ending → Read
read_of ts ending = (ts, ending)

-- an item has a token
pub SpellsItem-some : (item : Item) (us : List Shape) → SpellsItem legal item us → 1 ≤ length us
SpellsItem-some (Relation name kinds keys) us h = let k : length us ≡ length (h.0 ++ h.1) = ap (λ (s : List Shape). length s) h.2 in let o : length h.0 ≡ 1 = ap (λ (s : List Shape). length s) h.3 in omega (arith, k, o, length-append h.0 h.1)
SpellsItem-some (Batch programs) us h = let k : length us ≡ length (h.0 ++ h.1) = ap (λ (s : List Shape). length s) h.2 in let o : length h.0 ≡ 1 = ap (λ (s : List Shape). length s) h.3 in omega (arith, k, o, length-append h.0 h.1)
SpellsItem-some (Show name version) us h = let k : length us ≡ length (h.0 ++ h.1) = ap (λ (s : List Shape). length s) h.2 in let o : length h.0 ≡ 1 = ap (λ (s : List Shape). length s) h.3 in omega (arith, k, o, length-append h.0 h.1)

length-shapes : (p : Place) → length (shapes p) ≡ length (ahead p).0
unfolding shapes
length-shapes p = length-map (ahead p).0 (λ (t : Token). t.shape)

pub shapes-none : (p : Place) → (ahead p).0 ≢ [] → shapes p ≢ []
unfolding shapes
shapes-none p some e = some (none (ahead p).0 e)
  where
    none : (ts : List Token) → script.shapes ts ≡ [] → ts ≡ []
    none [] e = refl
    none (t ∷ ts) e = absurd cc

-- ---- an item more

-- the tokens before a source, and those of it that were passed
abbrev pub all_passed : List Token → Place → List Token
all_passed done p = done ++ passed_tokens p

passed_further : (done : List Token) (p q : Place) (us : List Shape) → q.source ≡ p.source → shapes p ≡ us ++ shapes q → script.shapes (all_passed done q) ≡ script.shapes (all_passed done p) ++ us
passed_further done p q us same h =
    map-append (λ (t : Token). t.shape) done (passed_tokens q) ∙ ap (λ (vs : List Shape). script.shapes done ++ vs) (passed_more p q us same h)
    ∙ sym (append_assoc (script.shapes done) (script.shapes (passed_tokens p)) us) ∙ ap (λ (vs : List Shape). vs ++ us) (sym (map-append (λ (t : Token). t.shape) done (passed_tokens p)))

pub reads_derived : (done : List Token) (p q : Place) (items : List Item) (item : Item) → Derives legal (script.shapes (all_passed done p)) items → Takes p q item → Derives legal (script.shapes (all_passed done q)) (items ++ item ∷ [])
reads_derived done p q items item d t =
    subst (λ (us : List Shape). Derives legal us (items ++ item ∷ [])) (sym (passed_further done p q t.tokens t.same t.parts)) (Derives-more (script.shapes (all_passed done p)) t.tokens items item d t.spelled)

pub reads_shorter : (p q : Place) (item : Item) → Takes p q item → length (ahead q).0 < length (ahead p).0
reads_shorter p q item t =
    let whole : length (shapes p) ≡ length (t.tokens ++ shapes q) = ap (λ (us : List Shape). length us) t.parts in
    let some : 1 ≤ length t.tokens = SpellsItem-some item t.tokens t.spelled in
    omega (arith, whole, some, length-append t.tokens (shapes q), length-shapes p, length-shapes q)

-- ---- the end of a script

-- The bytes are these tokens, and then the source of a place.
abbrev pub EndsIn : List ℕ → List Token → Source → Type 0
EndsIn bytes done source = tokens bytes ≡ read_of (done ++ (read_all source).0) (read_all source).1

-- a source from the first line on is all bytes
pub is_all : (source : Source) → source.line ≡ 1 → EndsIn source.bytes [] source
is_all source first = ap (λ (line : ℕ). tokens_at line source.bytes) (sym first)

module _ (bytes : List ℕ) (done : List Token) where
  -- the tokens of the bytes, where these stand ahead of a place
  pub ends_with : (p : Place) (ts : List Token) (ending : Ending) → EndsIn bytes done p.source → ahead p ≡ (ts, ending) → tokens bytes ≡ read_of (all_passed done p ++ ts) ending
  ends_with p ts ending whole e =
      whole ∙ ap (λ (r : Read). read_of (done ++ r.0) r.1) (parts p ∙ ap (λ (r : Read). read_of (passed_tokens p ++ r.0) r.1) e)
      ∙ ap (λ (us : List Token). read_of us ending) (sym (append_assoc done (passed_tokens p) ts))

  none_ahead : (p : Place) (ending : Ending) → EndsIn bytes done p.source → ahead p ≡ ([], ending) → tokens bytes ≡ read_of (all_passed done p) ending
  none_ahead p ending whole e = ends_with p [] ending whole e ∙ ap (λ (ts : List Token). read_of ts ending) (append-nil (all_passed done p))

  pub ends : (p : Place) (items : List Item) (line : ℕ) → EndsIn bytes done p.source → Derives legal (script.shapes (all_passed done p)) items → ahead p ≡ ([], finished line) → script.Script bytes items script.End
  ends p items line whole d e = script.ended (all_passed done p) line items (none_ahead p (finished line) whole e) d

  -- a fault, from a place on
  pub halted : (p q : Place) (items : List Item) (line code : ℕ) → EndsIn bytes done p.source → Derives legal (script.shapes (all_passed done p)) items → Halts p q line code → script.Script bytes items (script.Fault line code)
  halted p q items line code whole d h = go line code h.at
    where
      passed : script.shapes (all_passed done q) ≡ script.shapes (all_passed done p) ++ h.left
      passed = passed_further done p q h.left h.same h.parts

      there : EndsIn bytes done q.source
      there = subst (EndsIn bytes done) (sym h.same) whole

      stops : script.Stops (script.shapes (all_passed done q)) items h.left
      stops = subst (λ (us : List Shape). script.Stops us items h.left) (sym passed) (h.begins (script.shapes (all_passed done p)) items d)

      go : (line code : ℕ) → HaltsAt h.left (ahead q) line code → script.Script bytes items (script.Fault line code)
      go l n (at_token t others ending code e f) =
          script.faulty (all_passed done q) t others ending code items h.left (ends_with q (t ∷ others) ending there e) stops
          (subst (λ (us : List Shape). Faulty us t.shape code) (sym passed) (f (script.shapes (all_passed done p)) items d))
      go l n (cut line e some) = script.cut (all_passed done q) line items h.left (none_ahead q (finished line) there e) stops some
      go l n (torn line code e) = script.torn (all_passed done q) line code items h.left (none_ahead q (broken line code) there e) stops

-- ---- what a reader answers

pub read_item : (old new : Reader) (items : List Item) (item : Item) → Takes old.cursor new.cursor item → HasRead old items → Reads old new items item
read_item old new items item t d = record {
  read = record {
    line = ap (λ (s : Source). s.line) t.same ∙ d.line;
    derived = reads_derived [] old.cursor new.cursor items item d.derived t;
  };
  tokens = t.tokens;
  spelled = t.spelled;
  within = t.within;
  shorter = reads_shorter old.cursor new.cursor item t;
}

pub read_other : (old : Reader) (q : Place) (items : List Item) (step : Step) → HasRead old items → IsTaken old.cursor q step → ((item : Item) → step ≡ steps.Item item → ⊥) → IsNext items old old step
read_other old q items (steps.Item item) d t other = absurd (other item refl)
read_other old q items steps.End d t other = (ends (bytes_of old) [] old.cursor items t.0 (is_all old.cursor.source d.line) d.derived t.1, refl)
read_other old q items (steps.Fault line code) d t other = (halted (bytes_of old) [] old.cursor q items line code (is_all old.cursor.source d.line) d.derived t, refl)
read_other old q items steps.NoMemory d t other = refl
