-- The place behind the tokens that a cursor has passed, whatever comes behind its source.
use Rattle.std.proofs.Common.{◌⊎◌, inl, inr, ◌≡◌, ◌≢◌, ℕ, ◌+◌, ◌-◌, ◌^◌, ◌<◌, Bool, true, false, cond, List, [], ◌∷◌, ◌++◌, length, take, drop, Option, Some, refl, sym, ap, subst, ◌∙◌, append_assoc, arith}
use Rattle.std.specs.Prelude.{nat_lt}
use Rattle.std.specs.List.{prefix_len}
use Rattle.std.proofs.lemmas.List.{append-nil, append_cancel_right, length-append, length-drop, take-append-le}
use Rattle.std.proofs.Math.Seq.{take-length}
use Rattle.lt_model.specs.Grammar.{semicolon}
use Rattle.lt_model.specs.Tokens as tokens
use Rattle.lt_model.specs.Tokens.{Class, white, feed, hash, letter, digit, quote, other, class_of, in_word, First}
use Rattle.lt_script.specs.declared.token.Token.{Token}
use Rattle.lt_script.specs.declared.lexer.Lexer.{Lexer}
use Rattle.lt_script.specs.declared.lexer.Lexed.{Lexed}
use Rattle.lt_script.specs.declared.lexer.Lexed.TheVariants.{Token as One, End, Broken}
use Rattle.lt_script.specs.View.{shape, view, IsNext}
use Rattle.lt_script.specs.Pieces.{IsBack, Leads, Passes, begins_longer, goes_on_by, goes_on as may_go_on, first_by, first_at, Opened}
use Rattle.lt_script.specs.Ahead.{Source, source_of, read_all, Place, ahead, shapes, behind, passed_tokens, read_from, place_of, IsBehind, decided, undecided, EndsSo, IsPlace, Stood}
use Rattle.lt_script.proofs.Pieces.{leads_then, leads_token, tokens_first}
use Rattle.lt_script.proofs.Backs.{back_same, back_on, token_back, semicolon_back}
use Rattle.lt_script.proofs.Passing.{passes_none, passes_leads, passes_on, passes_token}
use Rattle.lt_script.proofs.Skips.{run_whole, is_empty}
use Rattle.lt_script.proofs.Places.{parts, ahead_behind, sees_none}

-- ---- nothing is left behind a token that more bytes may make longer

abbrev IsToken : Option First → tokens.Shape → List ℕ → Type 0
IsToken o s left = o ≡ Some (tokens.token s left)

word_left : (n : ℕ) (bytes left : List ℕ) (s : tokens.Shape) (b : Bool) → n ≡ length bytes → IsToken (Some (cond b (tokens.fault 5) (tokens.token (tokens.word (take n bytes)) (drop n bytes)))) s left → left ≡ []
word_left n bytes left s true whole e = absurd cc
word_left n bytes left s false whole e = let same : drop n bytes ≡ left = cc in sym same ∙ is_empty (drop n bytes) (omega (arith, length-drop n bytes, whole))

number_left : (n : ℕ) (bytes left : List ℕ) (s : tokens.Shape) → n ≡ length bytes → IsToken (Some (tokens.token (tokens.number (take n bytes)) (drop n bytes))) s left → left ≡ []
number_left n bytes left s whole e = let same : drop n bytes ≡ left = cc in sym same ∙ is_empty (drop n bytes) (omega (arith, length-drop n bytes, whole))

symbol_left : (n : ℕ) (text rest left : List ℕ) (s : tokens.Shape) → rest ≡ [] → IsToken (Some (tokens.close_symbol n text rest)) s left → left ≡ []
symbol_left n text [] left s none e = absurd cc
symbol_left n text (c ∷ rest) left s none e = absurd cc

one_of : (b : ℕ) → begins_longer b [] ≡ true → (b ≡ 33) ⊎ ((b ≡ 45) ⊎ ((b ≡ 60) ⊎ (b ≡ 62)))
one_of b h = Prim.grind arith

other_left : (b : ℕ) (left : List ℕ) (s : tokens.Shape) → (b ≡ 33) ⊎ ((b ≡ 45) ⊎ ((b ≡ 60) ⊎ (b ≡ 62))) → IsToken (Some (tokens.sign_at (b ∷ []))) s left → left ≡ []
other_left b left s (inl is) e = let there : IsToken (Some (tokens.sign_at (33 ∷ []))) s left = subst (λ (n : ℕ). IsToken (Some (tokens.sign_at (n ∷ []))) s left) is e in absurd cc
other_left b left s (inr (inl is)) e = let there : IsToken (Some (tokens.sign_at (45 ∷ []))) s left = subst (λ (n : ℕ). IsToken (Some (tokens.sign_at (n ∷ []))) s left) is e in cc
other_left b left s (inr (inr (inl is))) e = let there : IsToken (Some (tokens.sign_at (60 ∷ []))) s left = subst (λ (n : ℕ). IsToken (Some (tokens.sign_at (n ∷ []))) s left) is e in cc
other_left b left s (inr (inr (inr is))) e = let there : IsToken (Some (tokens.sign_at (62 ∷ []))) s left = subst (λ (n : ℕ). IsToken (Some (tokens.sign_at (n ∷ []))) s left) is e in cc

class_left : (c : Class) (b : ℕ) (bytes left : List ℕ) (s : tokens.Shape) → goes_on_by c b bytes ≡ true → IsToken (first_by c b bytes) s left → left ≡ []
class_left white b bytes left s h e = absurd cc
class_left feed b bytes left s h e = absurd cc
class_left hash b bytes left s h e = absurd cc
class_left letter b bytes left s h e = word_left (prefix_len in_word (b ∷ bytes)) (b ∷ bytes) left s (nat_lt 15 (prefix_len in_word (b ∷ bytes))) (run_whole in_word (b ∷ bytes) h) e
class_left digit b bytes left s h e = number_left (prefix_len tokens.is_digit (b ∷ bytes)) (b ∷ bytes) left s (run_whole tokens.is_digit (b ∷ bytes) h) e
class_left quote b bytes left s h e =
    let n : ℕ = prefix_len in_word bytes in
    symbol_left n (take n bytes) (drop n bytes) left s (is_empty (drop n bytes) (omega (arith, length-drop n bytes, run_whole in_word bytes h))) e
class_left other b [] left s h e = other_left b left s (one_of b h) e
class_left other b (c ∷ bytes) left s h e = absurd cc

-- behind a token that isn't decided nothing is left
pub left_none : (tail left : List ℕ) (s : tokens.Shape) → may_go_on tail ≡ true → IsToken (first_at tail) s left → left ≡ []
left_none [] left s h e = absurd cc
left_none (b ∷ bytes) left s h e = class_left (class_of b) b bytes left s h e

abbrev last_of : tokens.Token → List tokens.Token → tokens.Token
last_of d [] = d
last_of d (t ∷ ts) = last_of t ts

last_is : (d t : tokens.Token) (ts : List tokens.Token) → last_of d (ts ++ t ∷ []) ≡ t
last_is d t [] = refl
last_is d t (x ∷ ts) = last_is x t ts

same_last : (xs ys : List tokens.Token) (s t : tokens.Token) → xs ++ s ∷ [] ≡ ys ++ t ∷ [] → s ≡ t
same_last xs ys s t e = sym (last_is s s xs) ∙ ap (last_of s) e ∙ last_is s t ys

-- ---- one token on

pub behind_first : (start : Lexer) → IsBehind (source_of start) [] start.line start.rest.now
behind_first start = decided (back_same start.rest.now) (passes_none start.line start.rest.now)

-- no token is found where nothing is left
nothing_found : (line after : ℕ) (tail left : List ℕ) (s : tokens.Shape) → Leads line [] [] after tail → IsToken (first_at tail) s left → ⊥
nothing_found line after tail left s h e =
    let there : (tokens.tokens_at line []).0 ≡ (tokens.tokens_at after (tail ++ [])).0 = ap (λ (r : tokens.Read). r.0) (h []) in
    let here : (tokens.tokens_at after (tail ++ [])).0 ≡ (tokens.tokens_at after tail).0 = ap (λ (us : List ℕ). (tokens.tokens_at after us).0) (append-nil tail) in
    let token : (tokens.tokens_at after tail).0 ≡ (record { shape = s; line = after } ∷ (tokens.tokens_at after left).0) = ap (λ (r : tokens.Read). r.0) (tokens_first after tail (tokens.token s left) e) in
    no_token (there ∙ here ∙ token)
  where
    no_token : {t : tokens.Token} {ts : List tokens.Token} → [] ≡ t ∷ ts → ⊥
    no_token e = absurd cc

by_tail : (source : Source) (passed : List tokens.Token) (after : ℕ) (tail left : List ℕ) (s : tokens.Shape) (b : Bool) → may_go_on tail ≡ b → (back : IsBack tail source.bytes) → Passes source.line back.front passed after tail → IsToken (first_at tail) s left
    → IsBehind source (passed ++ record { shape = s; line = after } ∷ []) after left
by_tail source passed after tail left s true goes back h e =
    let none : left ≡ [] = left_none tail left s goes e in
    undecided passed (record { shape = s; line = after }) after tail refl (passes_leads source.line after tail source.bytes passed back h) goes (subst (λ (us : List ℕ). IsToken (first_at tail) s us) none e) none
by_tail source passed after tail left s false goes back h e =
    let further : IsBack left tail = token_back tail left s e in
    decided (back_on left tail source.bytes further back) (passes_on source.line after after left tail source.bytes passed (record { shape = s; line = after } ∷ []) further back h (passes_token after tail left s e goes further))

-- to where the next token begins
pub to_token : (source : Source) (passed : List tokens.Token) (line after : ℕ) (left tail : List ℕ) (back : IsBack left source.bytes) → Passes source.line back.front passed line left → (on : IsBack tail left) → Passes line on.front [] after tail
    → Passes source.line (back.front ++ on.front) passed after tail
to_token source passed line after left tail back h on k =
    subst (λ (ts : List tokens.Token). Passes source.line (back.front ++ on.front) ts after tail) (append-nil passed) (passes_on source.line line after tail left source.bytes passed [] on back h k)

none_left : (line after : ℕ) (left tail rest : List ℕ) (s : tokens.Shape) → left ≡ [] → (on : IsBack tail left) → Passes line on.front [] after tail → IsToken (first_at tail) s rest → ⊥
none_left line after left tail rest s none on k e = nothing_found line after tail rest s (subst (λ (us : List ℕ). Leads line us [] after tail) none (passes_leads line after tail left [] on k)) e

pub behind_next : (source : Source) (passed : List tokens.Token) (line after : ℕ) (left rest : List ℕ) (t : Token) → IsBehind source passed line left → Opened (One t) line left after rest → IsBehind source (passed ++ view t ∷ []) after rest
behind_next source passed line after left rest t (decided back h) o =
    subst (λ (n : ℕ). IsBehind source (passed ++ record { shape = shape t; line = n } ∷ []) after rest) (sym o.is.1)
    (by_tail source passed after o.tail rest (shape t) (may_go_on o.tail) refl (back_on o.tail left source.bytes o.back back) (to_token source passed line after left o.tail back h o.back o.passes) o.is.0)
behind_next source passed line after left rest t (undecided before last at tail same h goes first none) o = absurd (none_left line after left o.tail rest (shape t) none o.back o.passes o.is.0)

-- where the next token is a semicolon, its byte ends the front
ends_next : (source : Source) (passed : List tokens.Token) (line after : ℕ) (left rest : List ℕ) (t : Token) → shape t ≡ semicolon → IsBehind source passed line left → Opened (One t) line left after rest → EndsSo source (passed ++ view t ∷ []) after rest
unfolding Passes
ends_next source passed line after left rest t is (undecided before last at tail same h goes first none) o = absurd (none_left line after left o.tail rest (shape t) none o.back o.passes o.is.0)
ends_next source passed line after left rest t is (decided back h) o =
    let front : List ℕ = back.front ++ o.back.front in
    let there : o.tail ≡ 59 ∷ rest = semicolon_back o.tail rest (subst (λ (s : tokens.Shape). IsToken (first_at o.tail) s rest) is o.is.0) in
    let way : Passes source.line front passed after (59 ∷ rest) = subst (λ (us : List ℕ). Passes source.line front passed after us) there (to_token source passed line after left o.tail back h o.back o.passes) in
    let cut : Leads source.line (front ++ 59 ∷ []) passed after (59 ∷ []) = passes_leads source.line after (59 ∷ []) (front ++ 59 ∷ []) passed (record { front = front; parts = refl }) way in
    let token : tokens.Token = record { shape = semicolon; line = after } in
    let same : token ≡ view t = ap (λ (s : tokens.Shape). let u : tokens.Token = record { shape = s; line = after } in u) (sym is) ∙ ap (λ (n : ℕ). let u : tokens.Token = record { shape = shape t; line = n } in u) (sym o.is.1) in
    record {
      front = front;
      parts = back.parts ∙ ap (λ (us : List ℕ). back.front ++ us) (o.back.parts ∙ ap (λ (us : List ℕ). o.back.front ++ us) there) ∙ sym (append_assoc back.front o.back.front (59 ∷ rest)) ∙ sym (append_assoc front (59 ∷ []) rest);
      leads = subst (λ (u : tokens.Token). Leads source.line (front ++ 59 ∷ []) (passed ++ u ∷ []) after []) same (leads_then source.line after after (front ++ 59 ∷ []) (59 ∷ []) [] passed (token ∷ []) cut (leads_token after (59 ∷ []) [] semicolon refl refl));
    }

pub source_same : (p : Place) → (behind p).source ≡ p.source
unfolding behind
source_same p = refl

-- the tokens before the place behind this one
pub passed_next : (p : Place) (t : tokens.Token) (rest : List tokens.Token) (ending : tokens.Ending) → ahead p ≡ (t ∷ rest, ending) → passed_tokens (behind p) ≡ passed_tokens p ++ t ∷ []
passed_next p t rest ending h =
    let all : (read_all p.source).0 ≡ passed_tokens p ++ (ahead p).0 = ap (λ (r : tokens.Read). r.0) (parts p) in
    let there : (read_all (behind p).source).0 ≡ passed_tokens (behind p) ++ (ahead (behind p)).0 = ap (λ (r : tokens.Read). r.0) (parts (behind p)) in
    let same : (read_all (behind p).source).0 ≡ (read_all p.source).0 = ap (λ (s : Source). (read_all s).0) (source_same p) in
    let now : (ahead p).0 ≡ t ∷ rest = ap (λ (r : tokens.Read). r.0) h in
    let next : (ahead (behind p)).0 ≡ rest = ap (λ (r : tokens.Read). r.0) (ahead_behind p) ∙ ap (λ (ts : List tokens.Token). drop 1 ts) now in
    append_cancel_right (passed_tokens (behind p)) (passed_tokens p ++ t ∷ []) rest
    (ap (λ (ts : List tokens.Token). passed_tokens (behind p) ++ ts) (sym next) ∙ sym there ∙ same ∙ all ∙ ap (λ (ts : List tokens.Token). passed_tokens p ++ ts) now ∙ sym (append_assoc (passed_tokens p) (t ∷ []) rest))

-- ---- cursors

read_same : (n : Lexed) (l : Lexer) (read : tokens.Read) → IsNext n l.line l.rest.now read → read_from n l ≡ read
read_same (One t) l read h = sym h
read_same End l read h = sym h
read_same (Broken c) l read h = sym h

none_last : (before : List tokens.Token) (last : tokens.Token) → [] ≡ before ++ last ∷ [] → ⊥
none_last [] last e = absurd cc
none_last (t ∷ before) last e = absurd cc

abbrev read_of : List tokens.Token → tokens.Ending → tokens.Read
read_of ts ending = (ts, ending)

behind_front : {A : Type 0} (xs ys : List A) → drop (length xs) (xs ++ ys) ≡ ys
behind_front [] ys = refl
behind_front (x ∷ xs) ys = behind_front xs ys

-- before the first token
place_first : (start : Lexer) → IsPlace (source_of start) [] start.line start.rest.now
place_first start = record { back = back_same start.rest.now; behind = behind_first start; ends = λ before last is shape. absurd (none_last before last is); reads = refl }

-- a cursor that was brought to a place
module _ (source : Source) (passed : List tokens.Token) (place : Lexer) (w : IsPlace source passed place.line place.rest.now) (next : Lexed) (lexer : Lexer) (h : IsNext next lexer.line lexer.rest.now (tokens.tokens_at place.line place.rest.now)) where
  all_are : read_all source ≡ read_of (passed ++ (read_from next lexer).0) (read_from next lexer).1
  all_are = w.reads ∙ ap (λ (r : tokens.Read). read_of (passed ++ r.0) r.1) (sym (read_same next lexer (tokens.tokens_at place.line place.rest.now) h))

  count_is : length (read_all source).0 - length (read_from next lexer).0 ≡ length passed
  count_is = omega (arith, ap (λ (r : tokens.Read). length r.0) all_are, length-append passed (read_from next lexer).0)

  pub passed_is : passed_tokens (place_of source next lexer) ≡ passed
  passed_is =
      ap (λ (n : ℕ). take n (read_all source).0) count_is ∙ ap (λ (r : tokens.Read). take (length passed) r.0) all_are
      ∙ take-append-le (length passed) passed (read_from next lexer).0 (omega arith) ∙ take-length passed

  pub stood_at : (fits : place.line + length place.rest.now < 2 ^ 64) → lexer.line + length lexer.rest.now < 2 ^ 64 → Opened next place.line place.rest.now lexer.line lexer.rest.now → Stood source place next lexer
  stood_at fits later o = record {
    at = record {
      fits = later;
      is = sym (
          ap (λ (n : ℕ). read_of (drop n (read_all source).0) (read_all source).1) count_is
          ∙ ap (λ (r : tokens.Read). read_of (drop (length passed) r.0) r.1) all_are
          ∙ ap (λ (ts : List tokens.Token). read_of ts (read_from next lexer).1) (behind_front passed (read_from next lexer).0));
    };
    fits = fits;
    place = subst (λ (ts : List tokens.Token). IsPlace source ts place.line place.rest.now) (sym passed_is) w;
    opened = o;
  }

pub stood_first : (start : Lexer) (next : Lexed) (lexer : Lexer) → IsNext next lexer.line lexer.rest.now (tokens.tokens_at start.line start.rest.now) → (fits : start.line + length start.rest.now < 2 ^ 64) → lexer.line + length lexer.rest.now < 2 ^ 64
    → Opened next start.line start.rest.now lexer.line lexer.rest.now → Stood (source_of start) start next lexer
stood_first start next lexer h fits later o = stood_at (source_of start) [] start (place_first start) next lexer h fits later o

-- ---- behind one token more

module _ (source : Source) (since : Lexer) (next : Lexed) (lexer : Lexer) (p : Place) (s : Stood source since next lexer) (there : place_of source next lexer ≡ p) (t : Token) (is : next ≡ One t) where
  seen : ahead p ≡ read_from (One t) lexer
  seen = ap ahead (sym there) ∙ sym s.at.is ∙ ap (λ (m : Lexed). read_from m lexer) is

  passed_now : passed_tokens (behind p) ≡ passed_tokens p ++ view t ∷ []
  passed_now = passed_next p (view t) _ _ seen

  first : IsBehind source (passed_tokens p) since.line since.rest.now
  first = subst (λ (q : Place). IsBehind source (passed_tokens q) since.line since.rest.now) there s.place.behind

  opened : Opened (One t) since.line since.rest.now lexer.line lexer.rest.now
  opened = subst (λ (m : Lexed). Opened m since.line since.rest.now lexer.line lexer.rest.now) is s.opened

  reads_now : read_all source ≡ read_of ((passed_tokens p ++ view t ∷ []) ++ (tokens.tokens_at lexer.line lexer.rest.now).0) (tokens.tokens_at lexer.line lexer.rest.now).1
  reads_now =
      ap (λ (q : Place). read_all q.source) there ∙ parts p ∙ ap (λ (r : tokens.Read). read_of (passed_tokens p ++ r.0) r.1) seen
      ∙ ap (λ (ts : List tokens.Token). read_of ts (tokens.tokens_at lexer.line lexer.rest.now).1) (sym (append_assoc (passed_tokens p) (view t ∷ []) (tokens.tokens_at lexer.line lexer.rest.now).0))

  pub place_next : IsPlace source (passed_tokens (behind p)) lexer.line lexer.rest.now
  place_next = subst (λ (ts : List tokens.Token). IsPlace source ts lexer.line lexer.rest.now) (sym passed_now) (record {
    back = back_on lexer.rest.now since.rest.now source.bytes (back_on lexer.rest.now opened.tail since.rest.now (token_back opened.tail lexer.rest.now (shape t) opened.is.0) opened.back) s.place.back;
    behind = behind_next source (passed_tokens p) since.line lexer.line since.rest.now lexer.rest.now t first opened;
    ends = λ before last are shape_is.
        ends_next source (passed_tokens p) since.line lexer.line since.rest.now lexer.rest.now t
        (ap (λ (u : tokens.Token). u.shape) (sym (same_last before (passed_tokens p) last (view t) (sym are))) ∙ shape_is) first opened;
    reads = reads_now;
  })

pub stood_next : (source : Source) (since : Lexer) (next : Lexed) (lexer : Lexer) (p : Place) → Stood source since next lexer → place_of source next lexer ≡ p → (t : Token) → next ≡ One t → (n : Lexed) (l : Lexer) → l.line + length l.rest.now < 2 ^ 64
    → IsNext n l.line l.rest.now (tokens.tokens_at lexer.line lexer.rest.now) → Opened n lexer.line lexer.rest.now l.line l.rest.now → Stood source lexer n l
stood_next source since next lexer p s there t is n l fits h o = stood_at source (passed_tokens (behind p)) lexer (place_next source since next lexer p s there t is) n l h s.at.fits fits o

-- some token stands next
pub next_place : (source : Source) (since : Lexer) (next : Lexed) (lexer : Lexer) (p : Place) → Stood source since next lexer → place_of source next lexer ≡ p → shapes p ≢ [] → IsPlace p.source (passed_tokens (behind p)) lexer.line lexer.rest.now
next_place source since next lexer p s there some = subst (λ (x : Source). IsPlace x (passed_tokens (behind p)) lexer.line lexer.rest.now) (ap (λ (q : Place). q.source) there) (go next refl)
  where
    other : (n m : Lexed) → next ≡ n → next ≡ m → n ≡ m
    other n m a b = sym a ∙ b

    go : (n : Lexed) → next ≡ n → IsPlace source (passed_tokens (behind p)) lexer.line lexer.rest.now
    go (One t) is = place_next source since next lexer p s there t is
    go End is = absurd (some (sees_none source next lexer p s.at there (λ t e. let no : End ≡ One t = other End (One t) is e in absurd cc)))
    go (Broken code) is = absurd (some (sees_none source next lexer p s.at there (λ t e. let no : Broken code ≡ One t = other (Broken code) (One t) is e in absurd cc)))
