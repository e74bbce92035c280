-- What the reader of an item finds, and where it stops, in the language's own words. `done` are the tokens before, and
-- `ts` those still to come.
use Rattle.std.proofs.Common.{◌≡◌, ◌≢◌, List, [], ◌∷◌, ◌++◌, None, Ok, Err, refl, sym, ap, subst, ◌∙◌, append_assoc}
use Rattle.std.specs.List.{flat_map}
use Rattle.std.proofs.lemmas.List.{append-nil}
use Rattle.lt_reading.specs.Reading.{Stop}
use Rattle.lt_reading.specs.Language.{formed, full}
use Rattle.lt_reading.specs.Faults.{code_of}
use Rattle.lt_reading.proofs.Scripts.{Halted}
use Rattle.lt_model.specs.declared.syntax.Item.{Item as ItemValue}
use Rattle.lt_model.specs.Tokens.{Shape, word}
use Rattle.lt_model.specs.Grammar.{legal, semicolon, SpellsItem, Derives}
use Rattle.lt_model.specs.Faults.{Faulty}
use Rattle.lt_model.specs.Script.{IsInside, Stops}
use Rattle.lt_model.proofs.Levels.{NoFault-open}
use Rattle.lt_grammar.specs.Tokens.{show_word}
use Rattle.lt_grammar.specs.Grammar.{Item, show, item_tokens, IsItem, Items, script_marks}
use Rattle.lt_grammar.specs.Productions.{item_at}
use Rattle.lt_grammar.specs.Meaning.{level_of, item_value}
use Rattle.lt_grammar.proofs.Scripts.{items_read, item_halted}
use Rattle.lt_grammar.proofs.ItemsAgree.{items_agree}
use Rattle.lt_grammar.proofs.FaultsAgree.{from_derives, to_faulty, to_no_fault}

-- ---- what is read

-- The tokens of this item, and then the rest.
pub record Found (ts : List Shape) (item : Item) (rest : List Shape) : Type 0 where
  pub front : List Shape
  pub parts : ts ≡ front ++ rest
  pub spelled : SpellsItem legal (item_value item) front
  pub holds : IsItem full item

pub item_found : (ts : List Shape) (item : Item) (rest : List Shape) → item_at ts ≡ Ok (item, rest) → Found ts item rest
item_found ts item rest e =
    let f = items_read.found ts item rest e in
    record { front = item_tokens item; parts = f.0; spelled = (items_agree full).there item f.1; holds = f.1 }

-- Tokens of one more item behind those of others.
pub Derives-more : (done us : List Shape) (items : List ItemValue) (item : ItemValue) → Derives legal done items → SpellsItem legal item us → Derives legal (done ++ us) (items ++ item ∷ [])
Derives-more done us [] item d h = (us, [], ap (λ (s : List Shape). s ++ us) d ∙ sym (append-nil us), h, refl)
Derives-more done us (x ∷ items) item d h = (d.0, d.1 ++ us, ap (λ (s : List Shape). s ++ us) d.2 ∙ append_assoc d.0 d.1 us, d.3, Derives-more d.1 us items item d.4 h)

-- ---- where it stops

-- Behind the tokens of these items: those that it passed lie inside one more, and none of all these has a fault; the
-- token at which it stopped has this fault, and where there is none it passed some.
pub record Stopped (done ts : List Shape) (items : List ItemValue) (stop : Stop Shape) : Type 0 where
  pub left : List Shape
  pub parts : ts ≡ left ++ stop.rest
  pub stops : Stops (done ++ left) items left
  pub fault : (t : Shape) (after : List Shape) → stop.rest ≡ t ∷ after → Faulty (done ++ left) t (code_of stop.cause)
  pub some : stop.rest ≡ [] → left ≢ []

pub item_stops : (done ts : List Shape) (items : List ItemValue) (stop : Stop Shape) → Derives legal done items → ts ≢ [] → item_at ts ≡ Err stop → Stopped done ts items stop
item_stops done ts items stop d some e =
    let x = from_derives full done items d in
    let spelled : done ≡ flat_map item_tokens x.0 = x.1.spelled in
    let h : Halted script_marks Items done ts stop = subst (λ (us : List Shape). Halted script_marks Items us ts stop) (sym spelled) (item_halted x.0 ts stop x.1.each e) in
    let k = h.inside in
    record {
      left = h.front;
      parts = h.parts;
      stops = record { done = done; parts = refl; derived = d; inside = (k.0, k.1, item_value k.2, subst (SpellsItem (level_of formed) (item_value k.2)) k.4 ((items_agree formed).there k.2 k.3)); faultless = to_no_fault (done ++ h.front) h.faultless };
      fault = λ t after is. to_faulty (done ++ h.front) t (code_of stop.cause) (h.there t after is);
      some = λ nothing left. some (h.parts ∙ ap (λ (s : List Shape). s ++ stop.rest) left ∙ nothing);
    }

-- ---- nothing to read

-- before its first token an item is still to come
inside_none : IsInside []
inside_none = (show_word, word [] ∷ semicolon ∷ [], item_value (show [] None), (items_agree formed).there (show [] None) (refl, tt))

pub nothing_left : (done : List Shape) (items : List ItemValue) → Derives legal done items → Stops done items []
nothing_left done items d = record {
  done = done;
  parts = sym (append-nil done);
  derived = d;
  inside = inside_none;
  faultless = NoFault-open done ([], items, subst (λ (ts : List Shape). Derives legal ts items) (sym (append-nil done)) d);
}
