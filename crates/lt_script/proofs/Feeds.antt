-- What a feed holds once it has answered.
use Rattle.std.proofs.Common.{◌≡◌, ℕ, ◌-◌, ◌<◌, ◌≤◌, Bool, true, false, List, [], ◌∷◌, ◌++◌, length, take, drop, Option, Some, None, Result, Ok, Err, refl, sym, ap, subst, ◌∙◌, append_assoc, arith}
use Rattle.std.specs.Prelude.{min, is_some, nat_le, OnErr}
use Rattle.std.proofs.lemmas.List.{length-append, drop_all, take-append-drop}
use Rattle.std.proofs.Transfers.{drop-appended}
use Rattle.lt_model.specs.declared.syntax.Item.{Item}
use Rattle.lt_model.specs.Tokens.{Token, Ending, Read, tokens_at}
use Rattle.lt_model.specs.Script as script
use Rattle.lt_script.specs.Pieces.{Leads}
use Rattle.lt_script.specs.declared.feed.Feed.{Feed}
use Rattle.lt_script.specs.declared.feed.Fault.{Fault}
use Rattle.lt_script.specs.declared.feed.FeedStep.TheVariants as steps
use Rattle.lt_script.specs.Feed.{kept_of, IsClosed, EndsItem, IsOpenAt, StandsBy, HasFed, IsSame, Gives, Goes}
use Rattle.lt_script.proofs.Pieces.{leads_none}

abbrev read_of : List Token → Ending → Read
read_of ts ending = (ts, ending)

-- ---- the bytes that are kept

-- the last of a list, by their number
pub drop_back : (xs front rest : List ℕ) → xs ≡ front ++ rest → drop (length xs - length rest) xs ≡ rest
drop_back xs front rest e =
    let long : length xs ≡ length (front ++ rest) = ap (λ (us : List ℕ). length us) e in
    let n : length xs - length rest ≡ length front = omega (arith, long, length-append front rest) in
    ap (λ (k : ℕ). drop k xs) n ∙ drop-appended front xs rest e

pub drop_within : (n : ℕ) (xs : List ℕ) → drop (min n (length xs)) xs ≡ drop n xs
drop_within n xs = go (nat_le n (length xs)) refl
  where
    go : (b : Bool) → nat_le n (length xs) ≡ b → drop (min n (length xs)) xs ≡ drop n xs
    go true is = let short : n ≤ length xs = Prim.grind arith in ap (λ (k : ℕ). drop k xs) (omega (arith, short))
    go false is = let long : length xs ≤ n = Prim.grind arith in ap (λ (k : ℕ). drop k xs) (omega (arith, long)) ∙ drop_all (length xs) xs (omega arith) ∙ sym (drop_all n xs long)

-- ---- open or at a fault

pub open_by : (o : Option Fault) (ended : Bool) (line : ℕ) (kept bytes : List ℕ) (items : List Item) → ((f : Fault) → o ≡ Some f → ⊥) → StandsBy o ended line kept bytes items → IsOpenAt line kept bytes items
open_by None ended line kept bytes items none s = s
open_by (Some f) ended line kept bytes items none s = absurd (none f refl)

pub closed_by : (o : Option Fault) (f : Fault) (ended : Bool) (line : ℕ) (kept bytes : List ℕ) (items : List Item) → o ≡ Some f → StandsBy o ended line kept bytes items → IsClosed ended bytes items (script.Fault f.line f.code)
closed_by o f ended line kept bytes items is s =
    let here : StandsBy (Some f) ended line kept bytes items = subst (λ (x : Option Fault). StandsBy x ended line kept bytes items) is s in here.1

-- behind a fault nothing is kept
pub kept_none : (o : Option Fault) (f : Fault) (ended : Bool) (line : ℕ) (kept bytes : List ℕ) (items : List Item) → o ≡ Some f → StandsBy o ended line kept bytes items → kept ≡ []
kept_none o f ended line kept bytes items is s =
    let here : StandsBy (Some f) ended line kept bytes items = subst (λ (x : Option Fault). StandsBy x ended line kept bytes items) is s in here.0

pub not_held : (o : Option Fault) (f : Fault) → is_some o ≡ false → o ≡ Some f → ⊥
not_held o f none is = let e : is_some (Some f) ≡ false = subst (λ (x : Option Fault). is_some x ≡ false) is none in absurd cc

-- a fault that is held is the one that is found
pub same_fault : (o : Option Fault) (f g : Fault) → o ≡ Some f → o ≡ Some g → f ≡ g
same_fault o f g is found = let e : Some f ≡ Some g = sym is ∙ found in cc

pub answered : (f g : Fault) (line code : ℕ) → f ≡ g → f.line ≡ line → f.code ≡ code → steps.Fault g.line g.code ≡ steps.Fault line code
answered f g line code same line_is code_is =
    ap (λ (x : Fault). steps.Fault x.line x.code) (sym same) ∙ ap (λ (n : ℕ). steps.Fault n f.code) line_is ∙ ap (λ (n : ℕ). steps.Fault line n) code_is

pub none_by : (o : Option Fault) → ((f : Fault) → o ≡ Some f → ⊥) → o ≡ None
none_by None none = refl
none_by (Some f) none = absurd (none f refl)

pub not_none : (o : Option Fault) (f : Fault) → o ≡ Some f → o ≡ None → ⊥
not_none o f is none = let e : Some f ≡ None = sym is ∙ none in absurd cc

-- nothing was pushed yet
pub fed_none : (kept : List ℕ) → kept ≡ [] → IsOpenAt 1 kept [] []
fed_none kept none = record { front = []; parts = sym none; last = refl; done = []; leads = leads_none 1 []; derived = refl }

-- all bytes that were pushed are the tokens that are decided, and then those of the bytes that are kept
pub leads_all : (line : ℕ) (kept bytes : List ℕ) (items : List Item) (o : IsOpenAt line kept bytes items) → Leads 1 bytes o.done line kept
leads_all line kept bytes items o = λ more. ap (λ (us : List ℕ). tokens_at 1 (us ++ more)) o.parts ∙ ap (tokens_at 1) (append_assoc o.front kept more) ∙ o.leads (kept ++ more)

-- ---- an item more

-- one front behind another
leads_front : (line after last : ℕ) (front more : List ℕ) (ts us : List Token) → Leads line front ts after [] → Leads after more us last [] → Leads line (front ++ more) (ts ++ us) last []
leads_front line after last front more ts us h k = λ rest.
    ap (tokens_at line) (append_assoc front more rest) ∙ h (more ++ rest) ∙ ap (λ (r : Read). read_of (ts ++ r.0) r.1) (k rest) ∙ ap (λ (vs : List Token). read_of vs (tokens_at last rest).1) (sym (append_assoc ts us (tokens_at last rest).0))

ends_item : (items : List Item) (item : Item) (front others : List ℕ) → front ≡ others ++ 59 ∷ [] → EndsItem (items ++ item ∷ []) front
ends_item [] item front others is = (others, is)
ends_item (x ∷ items) item front others is = (others, is)

module _ (bytes kept : List ℕ) (items : List Item) (item : Item) (line : ℕ) (o : IsOpenAt line kept bytes items) (left after : ℕ) (g : Goes o.done items line kept item left after) where
  pub open_more : (now : List ℕ) → now ≡ g.rest → IsOpenAt after now bytes (items ++ item ∷ [])
  open_more now is = record {
    front = o.front ++ (g.front ++ 59 ∷ []);
    parts = o.parts ∙ ap (λ (us : List ℕ). o.front ++ us) (g.parts ∙ ap (λ (us : List ℕ). (g.front ++ 59 ∷ []) ++ us) (sym is)) ∙ sym (append_assoc o.front (g.front ++ 59 ∷ []) now);
    last = ends_item items item (o.front ++ (g.front ++ 59 ∷ [])) (o.front ++ g.front) (sym (append_assoc o.front g.front (59 ∷ [])));
    done = o.done ++ g.tokens;
    leads = leads_front 1 line after o.front (g.front ++ 59 ∷ []) o.done g.tokens o.leads g.leads;
    derived = g.derived;
  }

  pub rest_shorter : length g.rest < length kept
  rest_shorter =
      let long : length kept ≡ length ((g.front ++ 59 ∷ []) ++ g.rest) = ap (λ (us : List ℕ). length us) g.parts in
      omega (arith, long, length-append (g.front ++ 59 ∷ []) g.rest, length-append g.front (59 ∷ []))

  -- where the bytes are kept from a place on
  pub rest_at : (all : List ℕ) (from : ℕ) → kept ≡ drop from all → drop (length all - left) all ≡ g.rest
  rest_at all from is =
      let cut : all ≡ take from all ++ drop from all = sym (take-append-drop from all) in
      let parts : all ≡ (take from all ++ (g.front ++ 59 ∷ [])) ++ g.rest =
      cut ∙ ap (λ (us : List ℕ). take from all ++ us) (sym is ∙ g.parts) ∙ sym (append_assoc (take from all) (g.front ++ 59 ∷ []) g.rest) in
      ap (λ (n : ℕ). drop (length all - n) all) g.long ∙ drop_back all (take from all ++ (g.front ++ 59 ∷ [])) g.rest parts

pub gives : (old new : Feed) (bytes : List ℕ) (items : List Item) (item : Item) (left after : ℕ) (o : IsOpenAt old.line (kept_of old) bytes items) → Goes o.done items old.line (kept_of old) item left after
    → new.bytes.items ≡ old.bytes.items → new.from ≡ length old.bytes.items - left → new.line ≡ after → new.fault ≡ None → Gives old new bytes items item
gives old new bytes items item left after o g same from line none =
    let now : kept_of new ≡ g.rest = ap (λ (us : List ℕ). drop new.from us) same ∙ ap (λ (n : ℕ). drop n old.bytes.items) from ∙ rest_at bytes (kept_of old) items item old.line o left after g old.bytes.items old.from refl in
    let more : IsOpenAt new.line (kept_of new) bytes (items ++ item ∷ []) = subst (λ (n : ℕ). IsOpenAt n (kept_of new) bytes (items ++ item ∷ [])) (sym line) (open_more bytes (kept_of old) items item old.line o left after g (kept_of new) now) in
    record {
      fed = subst (λ (x : Option Fault). StandsBy x new.ended new.line (kept_of new) bytes (items ++ item ∷ [])) (sym none) more;
      tokens = script.shapes g.tokens;
      spelled = g.spelled;
      within = g.within;
      shorter = subst (λ (us : List ℕ). length us < length (kept_of old)) (sym now) (rest_shorter bytes (kept_of old) items item old.line o left after g);
    }

-- ---- more bytes, and the end

open_pushed : (line : ℕ) (kept bytes piece : List ℕ) (items : List Item) → IsOpenAt line kept bytes items → IsOpenAt line (kept ++ piece) (bytes ++ piece) items
open_pushed line kept bytes piece items o = record {
  front = o.front;
  parts = ap (λ (us : List ℕ). us ++ piece) o.parts ∙ append_assoc o.front kept piece;
  last = o.last;
  done = o.done;
  leads = o.leads;
  derived = o.derived;
}

closed_pushed : (bytes piece : List ℕ) (items : List Item) (close : script.Close) → IsClosed false bytes items close → IsClosed false (bytes ++ piece) items close
closed_pushed bytes piece items close h = λ more is. subst (λ (us : List ℕ). script.Script us items close) (sym (append_assoc bytes piece more)) (h (piece ++ more) tt)

-- behind a fault they are dropped
pub dropped : (o : Option Fault) (ended : Bool) (line : ℕ) (kept bytes piece : List ℕ) (items : List Item) → is_some o ≡ true → ended ≡ false → StandsBy o ended line kept bytes items → StandsBy o ended line kept (bytes ++ piece) items
dropped None ended line kept bytes piece items some open_ s = absurd cc
dropped (Some f) true line kept bytes piece items some open_ s = absurd cc
dropped (Some f) false line kept bytes piece items some open_ s = (s.0, closed_pushed bytes piece items (script.Fault f.line f.code) s.1)

pub pushed : (old mid : Feed) (all bytes piece : List ℕ) (items : List Item) → IsSame old mid → mid.from ≡ 0 → all ≡ mid.bytes.items ++ piece → is_some old.fault ≡ false → HasFed old bytes items
    → StandsBy mid.fault mid.ended mid.line (drop mid.from all) (bytes ++ piece) items
pushed old mid all bytes piece items same first more none h =
    let o : IsOpenAt old.line (kept_of old) bytes items = open_none old.fault old.ended old.line (kept_of old) bytes items none h in
    let before : mid.bytes.items ≡ kept_of old = ap (λ (n : ℕ). drop n mid.bytes.items) (sym first) ∙ same.kept in
    let now : drop mid.from all ≡ kept_of old ++ piece = ap (λ (us : List ℕ). drop mid.from us) more ∙ ap (λ (n : ℕ). drop n (mid.bytes.items ++ piece)) first ∙ ap (λ (us : List ℕ). us ++ piece) before in
    let there : IsOpenAt mid.line (drop mid.from all) (bytes ++ piece) items =
    subst (λ (n : ℕ). IsOpenAt n (drop mid.from all) (bytes ++ piece) items) (sym same.line)
    (subst (λ (us : List ℕ). IsOpenAt old.line us (bytes ++ piece) items) (sym now) (open_pushed old.line (kept_of old) bytes piece items o)) in
    subst (λ (x : Option Fault). StandsBy x mid.ended mid.line (drop mid.from all) (bytes ++ piece) items) (sym (same.fault ∙ no_fault old.fault none)) there
  where
    no_fault : (x : Option Fault) → is_some x ≡ false → x ≡ None
    no_fault None e = refl
    no_fault (Some f) e = absurd cc

    open_none : (x : Option Fault) (ended : Bool) (line : ℕ) (kept bytes : List ℕ) (items : List Item) → is_some x ≡ false → StandsBy x ended line kept bytes items → IsOpenAt line kept bytes items
    open_none None ended line kept bytes items e s = s
    open_none (Some f) ended line kept bytes items e s = absurd cc

closed_ended : (ended : Bool) (bytes : List ℕ) (items : List Item) (close : script.Close) → IsClosed ended bytes items close → IsClosed true bytes items close
closed_ended true bytes items close h = h
closed_ended false bytes items close h = λ more is. h more tt

pub at_end : (o : Option Fault) (ended : Bool) (line : ℕ) (kept bytes : List ℕ) (items : List Item) → StandsBy o ended line kept bytes items → StandsBy o true line kept bytes items
at_end None ended line kept bytes items s = s
at_end (Some f) ended line kept bytes items s = (s.0, closed_ended ended bytes items (script.Fault f.line f.code) s.1)

-- two feeds with the same bytes, from the same place on
pub same_feed : (old mid new : Feed) → IsSame old mid → new.bytes.items ≡ mid.bytes.items → new.from ≡ mid.from → new.line ≡ mid.line → new.ended ≡ mid.ended → new.fault ≡ mid.fault → IsSame old new
same_feed old mid new s bytes from line ended fault = record {
  kept = ap (λ (us : List ℕ). drop new.from us) bytes ∙ ap (λ (n : ℕ). drop n mid.bytes.items) from ∙ s.kept;
  line = line ∙ s.line;
  ended = ended ∙ s.ended;
  fault = fault ∙ s.fault;
}

pub same_itself : (f : Feed) → IsSame f f
same_itself f = record { kept = refl; line = refl; ended = refl; fault = refl }

-- the bytes that are kept, in a list of their own
pub same_kept : (old new : Feed) (answered : ℕ) → answered ≡ min old.from (length old.bytes.items) → new.bytes.items ≡ drop answered old.bytes.items → new.from ≡ 0 → new.line ≡ old.line → new.ended ≡ old.ended → new.fault ≡ old.fault → IsSame old new
same_kept old new answered least bytes from line ended fault = record {
  kept = ap (λ (us : List ℕ). drop new.from us) bytes ∙ ap (λ (n : ℕ). drop n (drop answered old.bytes.items)) from ∙ ap (λ (n : ℕ). drop n old.bytes.items) least ∙ drop_within old.from old.bytes.items;
  line = line;
  ended = ended;
  fault = fault;
}

pub kept_there : (slice all : List ℕ) (from n k : ℕ) → slice ≡ all → n ≡ length all → k ≡ min from n → drop k slice ≡ drop from all
kept_there slice all from n k same long least = ap (λ (us : List ℕ). drop k us) same ∙ ap (λ (m : ℕ). drop m all) (least ∙ ap (λ (m : ℕ). min from m) long) ∙ drop_within from all

pub on_err : {T E : Type 0} (r : Result T E) (P : Type 0) → P → OnErr r P
on_err (Ok x) P h = tt
on_err (Err e) P h = h
