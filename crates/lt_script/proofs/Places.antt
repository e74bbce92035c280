-- From one place to the next.
use Rattle.std.proofs.Common.{◌≡◌, ℕ, zero, suc, ◌+◌, ◌-◌, ◌≤◌, List, [], ◌∷◌, ◌++◌, length, drop, refl, sym, ap, ◌∙◌, append_assoc, arith}
use Rattle.std.proofs.lemmas.List.{length-drop, drop-drop, take-append-drop, map-append, append_cancel_right}
use Rattle.lt_model.specs.Tokens as tokens
use Rattle.lt_model.specs.Script as script
use Rattle.lt_script.specs.declared.token.Token.{Token}
use Rattle.lt_script.specs.declared.lexer.Lexer.{Lexer}
use Rattle.lt_script.specs.declared.lexer.Lexed.{Lexed}
use Rattle.lt_script.specs.declared.lexer.Lexed.TheVariants.{Token as One, End, Broken}
use Rattle.lt_script.specs.View.{shape, view, IsNext}
use Rattle.lt_script.specs.Ahead.{Source, read_all, Place, ahead, shapes, behind, passed_tokens, read_from, place_of, BeginsOn, IsAt}

-- the part from n on, found by its length
suffix : {A : Type 0} (n : ℕ) (xs : List A) → drop (length xs - length (drop n xs)) xs ≡ drop n xs
suffix zero xs = let e : length xs - length xs ≡ 0 = omega arith in rw e refl
suffix (suc n) [] = refl
suffix (suc n) (x ∷ xs) =
    let le : length (drop n xs) ≤ length xs = omega (arith, length-drop n xs) in
    let e : suc (length xs) - length (drop n xs) ≡ suc (length xs - length (drop n xs)) = omega arith in
    rw e (suffix n xs)

next_suffix : {A : Type 0} (n : ℕ) (xs : List A) → drop (length xs - length (drop 1 (drop n xs))) xs ≡ drop 1 (drop n xs)
next_suffix n xs = rw (drop-drop 1 n xs) (suffix (n + 1) xs)

abbrev read_of : List tokens.Token → tokens.Ending → tokens.Read
read_of ts ending = (ts, ending)

-- the tokens behind a place are those ahead of it but the first
pub ahead_behind : (p : Place) → ahead (behind p) ≡ (drop 1 (ahead p).0, (ahead p).1)
unfolding behind
ahead_behind p = ap (λ (ts : List tokens.Token). read_of ts (read_all p.source).1) (next_suffix p.passed (read_all p.source).0)

pub stands_token : (p : Place) (t : tokens.Token) (rest : List tokens.Token) (ending : tokens.Ending) → read_of (t ∷ rest) ending ≡ ahead p → shapes p ≡ t.shape ∷ shapes (behind p)
unfolding shapes
stands_token p t rest ending h =
    let here : script.shapes (ahead p).0 ≡ t.shape ∷ script.shapes rest = ap (λ (r : tokens.Read). script.shapes r.0) (sym h) in
    let after : script.shapes (ahead (behind p)).0 ≡ script.shapes (drop 1 (ahead p).0) = ap (λ (r : tokens.Read). script.shapes r.0) (ahead_behind p) in
    let left : script.shapes (drop 1 (ahead p).0) ≡ script.shapes rest = ap (λ (r : tokens.Read). script.shapes (drop 1 r.0)) (sym h) in
    here ∙ ap (λ (u : List tokens.Shape). t.shape ∷ u) (sym (after ∙ left))

pub stands_none : (p : Place) (ending : tokens.Ending) → read_of [] ending ≡ ahead p → shapes p ≡ []
unfolding shapes
stands_none p ending h = ap (λ (r : tokens.Read). script.shapes r.0) (sym h)

-- ---- from one place to a later one

-- the tokens of the source are those before a place and those from it on
pub parts : (p : Place) → read_all p.source ≡ read_of (passed_tokens p ++ (ahead p).0) (ahead p).1
parts p = ap (λ (ts : List tokens.Token). read_of ts (read_all p.source).1) (sym (take-append-drop p.passed (read_all p.source).0))

pub shapes_are : (p : Place) → shapes p ≡ script.shapes (ahead p).0
unfolding shapes
shapes_are p = refl

shapes_parts : (p : Place) → script.shapes (read_all p.source).0 ≡ script.shapes (passed_tokens p) ++ shapes p
unfolding shapes
shapes_parts p = ap (λ (r : tokens.Read). script.shapes r.0) (parts p) ∙ map-append (λ (t : tokens.Token). t.shape) (passed_tokens p) (ahead p).0

-- where these were read between two places of a source, they were passed
pub passed_more : (p q : Place) (us : List tokens.Shape) → q.source ≡ p.source → shapes p ≡ us ++ shapes q → script.shapes (passed_tokens q) ≡ script.shapes (passed_tokens p) ++ us
passed_more p q us same h =
    let there : script.shapes (read_all q.source).0 ≡ script.shapes (read_all p.source).0 = ap (λ (s : Source). script.shapes (read_all s).0) same in
    let here : script.shapes (passed_tokens p) ++ shapes p ≡ script.shapes (passed_tokens p) ++ (us ++ shapes q) = ap (λ (v : List tokens.Shape). script.shapes (passed_tokens p) ++ v) h in
    append_cancel_right (script.shapes (passed_tokens q)) (script.shapes (passed_tokens p) ++ us) (shapes q)
    (sym (shapes_parts q) ∙ there ∙ shapes_parts p ∙ here ∙ sym (append_assoc (script.shapes (passed_tokens p)) us (shapes q)))

-- ---- what a cursor sees

module _ (source : Source) (next : Lexed) (lexer : Lexer) (p : Place) where
  seen : IsAt source next lexer → place_of source next lexer ≡ p → (n : Lexed) → next ≡ n → read_from n lexer ≡ ahead p
  seen at there n is = ap (λ (m : Lexed). read_from m lexer) (sym is) ∙ at.is ∙ ap ahead there

  pub sees_token : IsAt source next lexer → place_of source next lexer ≡ p → (t : Token) → next ≡ One t → shapes p ≡ shape t ∷ shapes (behind p)
  sees_token at there t is = stands_token p (view t) _ _ (seen at there (One t) is)

  pub sees_none : IsAt source next lexer → place_of source next lexer ≡ p → ((t : Token) → next ≡ One t → ⊥) → shapes p ≡ []
  sees_none at there others = go next refl
    where
      go : (n : Lexed) → next ≡ n → shapes p ≡ []
      go (One t) is = absurd (others t is)
      go End is = stands_none p _ (seen at there End is)
      go (Broken c) is = stands_none p _ (seen at there (Broken c) is)

  pub stands_on : IsAt source next lexer → place_of source next lexer ≡ p → (t : Token) → next ≡ One t → BeginsOn t.line (ahead p).0
  stands_on at there t is = record { first = view t; others = _; are = ap (λ (r : tokens.Read). r.0) (sym (seen at there (One t) is)); line_is = refl }

  pub stands_at_end : IsAt source next lexer → place_of source next lexer ≡ p → next ≡ End → ahead p ≡ read_of [] (tokens.finished lexer.line)
  stands_at_end at there is = sym (seen at there End is)

  pub stands_broken : IsAt source next lexer → place_of source next lexer ≡ p → (c : ℕ) → next ≡ Broken c → ahead p ≡ read_of [] (tokens.broken lexer.line c)
  stands_broken at there c is = sym (seen at there (Broken c) is)

  -- ---- one token on

  abbrev at_left : Source → List tokens.Token → Place
  at_left source left = record { source = source; passed = length (read_all source).0 - length left }

  same_read : (n : Lexed) (l : Lexer) (read : tokens.Read) → IsNext n l.line l.rest.now read → read_from n l ≡ read
  same_read (One t) l read h = sym h
  same_read End l read h = sym h
  same_read (Broken c) l read h = sym h

  read_on : IsAt source next lexer → place_of source next lexer ≡ p → (t : Token) → next ≡ One t → (n : Lexed) (l : Lexer) → IsNext n l.line l.rest.now (tokens.tokens_at lexer.line lexer.rest.now) → read_from n l ≡ ahead (behind p)
  read_on at there t is n l h =
      same_read n l _ h ∙ ap (λ (r : tokens.Read). read_of (drop 1 r.0) r.1) (seen at there (One t) is) ∙ sym (ahead_behind p)

  pub goes_on : IsAt source next lexer → place_of source next lexer ≡ p → (t : Token) → next ≡ One t → (n : Lexed) (l : Lexer) → IsNext n l.line l.rest.now (tokens.tokens_at lexer.line lexer.rest.now) → place_of source n l ≡ behind p
  unfolding behind
  goes_on at there t is n l h =
      let left : (read_from n l).0 ≡ drop 1 (ahead p).0 = ap (λ (r : tokens.Read). r.0) (read_on at there t is n l h ∙ ahead_behind p) in
      ap (at_left source) left ∙ ap (λ (s : Source). at_left s (drop 1 (ahead p).0)) (ap (λ (q : Place). q.source) there)

  pub goes_in_step : IsAt source next lexer → place_of source next lexer ≡ p → (t : Token) → next ≡ One t → (n : Lexed) (l : Lexer) → IsNext n l.line l.rest.now (tokens.tokens_at lexer.line lexer.rest.now)
      → read_from n l ≡ ahead (place_of source n l)
  goes_in_step at there t is n l h = read_on at there t is n l h ∙ ap ahead (sym (goes_on at there t is n l h))

  at_end : IsAt source next lexer → place_of source next lexer ≡ p → (ending : tokens.Ending) → read_from next lexer ≡ read_of [] ending → p ≡ behind p
  unfolding behind
  at_end at there ending h =
      let none : (read_from next lexer).0 ≡ [] = ap (λ (r : tokens.Read). r.0) h in
      let left : [] ≡ drop 1 (ahead p).0 = ap (λ (r : tokens.Read). drop 1 r.0) (sym h ∙ seen at there next refl) in
      sym there ∙ ap (at_left source) (none ∙ left) ∙ ap (λ (s : Source). at_left s (drop 1 (ahead p).0)) (ap (λ (q : Place). q.source) there)

  pub stays : IsAt source next lexer → place_of source next lexer ≡ p → ((t : Token) → next ≡ One t → ⊥) → p ≡ behind p
  stays at there others = go next refl
    where
      go : (n : Lexed) → next ≡ n → p ≡ behind p
      go (One t) is = absurd (others t is)
      go End is = at_end at there _ (ap (λ (m : Lexed). read_from m lexer) is)
      go (Broken c) is = at_end at there _ (ap (λ (m : Lexed). read_from m lexer) is)
