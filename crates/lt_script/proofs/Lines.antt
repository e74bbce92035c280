-- The tokens of bytes that begin on another line, and how many lines they go down at most.
use Rattle.std.proofs.Common.{◌≡◌, ℕ, zero, suc, ◌+◌, ◌≤◌, List, [], ◌∷◌, ◌++◌, length, map, drop, refl, sym, ap, ◌∙◌, arith}
use Rattle.std.specs.Prelude.{not, ◌==◌, Some}
use Rattle.std.specs.List.{prefix_len}
use Rattle.std.proofs.lemmas.List.{append-nil, map-append, length-append, length-drop}
use Rattle.lt_model.specs.Tokens.{Shape, Token, Ending, finished, broken, Class, white, feed, hash, letter, digit, quote, other, class_of, First, token, fault, word_at, number_at, symbol_at, sign_at, Read, more, by_class, tokens_from, tokens_at}
use Rattle.lt_model.specs.Script as script
use Rattle.lt_script.specs.Pieces.{IsBack, Passes}
use Rattle.lt_script.proofs.Backs.{class_back}

-- ---- so many lines further down

abbrev pub moved : ℕ → Token → Token
moved d t = record { shape = t.shape; line = t.line + d }

abbrev ending_moved : ℕ → Ending → Ending
ending_moved d (finished line) = finished (line + d)
ending_moved d (broken line code) = broken (line + d) code

abbrev read_moved : ℕ → Read → Read
read_moved d r = (map (moved d) r.0, ending_moved d r.1)

abbrev Moves : ℕ → (ℕ → List ℕ → Read) → Type 0
Moves d go = (line : ℕ) (bytes : List ℕ) → go (line + d) bytes ≡ read_moved d (go line bytes)

moved_more : (d : ℕ) (go : ℕ → List ℕ → Read) → Moves d go → (line : ℕ) (f : First) → more go (line + d) f ≡ read_moved d (more go line f)
moved_more d go each line (token s rest) = ap (λ (r : Read). let x : Read = (record { shape = s; line = line + d } ∷ r.0, r.1) in x) (each line rest)
moved_more d go each line (fault c) = refl

moved_class : (d : ℕ) (go : ℕ → List ℕ → Read) → Moves d go → (line b : ℕ) (bytes : List ℕ) (c : Class) → by_class go (line + d) b bytes c ≡ read_moved d (by_class go line b bytes c)
moved_class d go each line b bytes white = each line bytes
moved_class d go each line b bytes feed = let further : line + d + 1 ≡ line + 1 + d = omega arith in ap (λ (n : ℕ). go n bytes) further ∙ each (line + 1) bytes
moved_class d go each line b bytes hash = each line (drop (prefix_len (λ c. not (c == 10)) bytes) bytes)
moved_class d go each line b bytes letter = moved_more d go each line (word_at (b ∷ bytes))
moved_class d go each line b bytes digit = moved_more d go each line (number_at (b ∷ bytes))
moved_class d go each line b bytes quote = moved_more d go each line (symbol_at bytes)
moved_class d go each line b bytes other = moved_more d go each line (sign_at (b ∷ bytes))

moved_from : (n d line : ℕ) (bytes : List ℕ) → tokens_from n (line + d) bytes ≡ read_moved d (tokens_from n line bytes)
moved_from zero d line bytes = refl
moved_from (suc n) d line [] = refl
moved_from (suc n) d line (b ∷ bytes) = moved_class d (tokens_from n) (moved_from n d) line b bytes (class_of b)

moved_at : (d line : ℕ) (bytes : List ℕ) → tokens_at (line + d) bytes ≡ read_moved d (tokens_at line bytes)
moved_at d line bytes = moved_from (length bytes + 1) d line bytes

moved_none : (d : ℕ) (bytes : List ℕ) → tokens_at d bytes ≡ read_moved d (tokens_at 0 bytes)
moved_none d bytes = let n : d ≡ 0 + d = omega arith in ap (λ (k : ℕ). tokens_at k bytes) n ∙ moved_at d 0 bytes

-- ---- back again

token_same : (d : ℕ) (s t : Token) → moved d s ≡ moved d t → s ≡ t
token_same d s t e =
    let shapes : s.shape ≡ t.shape = ap (λ (u : Token). u.shape) e in
    let lines : s.line + d ≡ t.line + d = ap (λ (u : Token). u.line) e in
    let line : s.line ≡ t.line = omega (arith, lines) in
    ap (λ (x : Shape). let u : Token = record { shape = x; line = s.line } in u) shapes ∙ ap (λ (n : ℕ). let u : Token = record { shape = t.shape; line = n } in u) line

tokens_same : (d : ℕ) (ss ts : List Token) → map (moved d) ss ≡ map (moved d) ts → ss ≡ ts
tokens_same d [] [] e = refl
tokens_same d [] (t ∷ ts) e = absurd cc
tokens_same d (s ∷ ss) [] e = absurd cc
tokens_same d (s ∷ ss) (t ∷ ts) e =
    let first : moved d s ≡ moved d t = cc in
    let others : map (moved d) ss ≡ map (moved d) ts = cc in
    ap (λ (u : Token). u ∷ ss) (token_same d s t first) ∙ ap (λ (us : List Token). t ∷ us) (tokens_same d ss ts others)

ending_same : (d : ℕ) (a b : Ending) → ending_moved d a ≡ ending_moved d b → a ≡ b
ending_same d (finished k) (finished l) e = let n : k + d ≡ l + d = cc in let m : k ≡ l = omega (arith, n) in ap finished m
ending_same d (finished k) (broken l c) e = absurd cc
ending_same d (broken k b) (finished l) e = absurd cc
ending_same d (broken k b) (broken l c) e =
    let n : k + d ≡ l + d = cc in
    let m : k ≡ l = omega (arith, n) in
    let same : b ≡ c = cc in
    ap (λ (x : ℕ). broken x b) m ∙ ap (broken l) same

abbrev read_of : List Token → Ending → Read
read_of ts ending = (ts, ending)

read_same : (d : ℕ) (a b : Read) → read_moved d a ≡ read_moved d b → a ≡ b
read_same d a b e =
    ap (λ (ts : List Token). read_of ts a.1) (tokens_same d a.0 b.0 (ap (λ (r : Read). r.0) e))
    ∙ ap (λ (x : Ending). read_of b.0 x) (ending_same d a.1 b.1 (ap (λ (r : Read). r.1) e))

-- ---- from the first line, and so from any line

shapes_moved : (d : ℕ) (ts : List Token) → script.shapes (map (moved d) ts) ≡ script.shapes ts
shapes_moved d [] = refl
shapes_moved d (t ∷ ts) = ap (λ (us : List Shape). t.shape ∷ us) (shapes_moved d ts)

-- the same bytes from line 0 on
pub record FromNone (line : ℕ) (text : List ℕ) (ts : List Token) (after : ℕ) : Type 0 where
  pub ts0 : List Token
  pub lines : ℕ
  pub passes : Passes 0 text ts0 lines []
  pub after_is : after ≡ lines + line
  pub shapes_are : script.shapes ts ≡ script.shapes ts0

pub from_none : (line after : ℕ) (text : List ℕ) (ts : List Token) → Passes line text ts after [] → FromNone line text ts after
unfolding Passes
from_none line after text ts h = go (tokens_at 0 text) refl
  where
    whole : (r : Read) → tokens_at 0 text ≡ r → read_moved line r ≡ read_of ts (finished after)
    whole r is = ap (read_moved line) (sym is) ∙ sym (moved_none line text) ∙ ap (tokens_at line) (sym (append-nil text)) ∙ h [] tt ∙ ap (λ (us : List Token). read_of us (finished after)) (append-nil ts)

    go : (r : Read) → tokens_at 0 text ≡ r → FromNone line text ts after
    go (ts0, finished k) is =
        let e : read_moved line (ts0, finished k) ≡ read_of ts (finished after) = whole (ts0, finished k) is in
        let same : map (moved line) ts0 ≡ ts = ap (λ (r : Read). r.0) e in
        let ends : finished (k + line) ≡ finished after = ap (λ (r : Read). r.1) e in
        let n : k + line ≡ after = cc in
        record {
          ts0 = ts0;
          lines = k;
          passes = λ bytes begins.
              read_same line (tokens_at 0 (text ++ bytes)) (read_of (ts0 ++ (tokens_at k bytes).0) (tokens_at k bytes).1)
              (sym (moved_none line (text ++ bytes)) ∙ h bytes tt
              ∙ ap (λ (m : ℕ). read_of (ts ++ (tokens_at m bytes).0) (tokens_at m bytes).1) (sym n)
              ∙ ap (λ (r : Read). read_of (ts ++ r.0) r.1) (moved_at line k bytes)
              ∙ ap (λ (us : List Token). read_of (us ++ map (moved line) (tokens_at k bytes).0) (ending_moved line (tokens_at k bytes).1)) (sym same)
              ∙ ap (λ (us : List Token). read_of us (ending_moved line (tokens_at k bytes).1)) (sym (map-append (moved line) ts0 (tokens_at k bytes).0)));
          after_is = sym n;
          shapes_are = ap (λ (us : List Token). script.shapes us) (sym same) ∙ shapes_moved line ts0;
        }
    go (ts0, broken k c) is = let e : broken (k + line) c ≡ finished after = ap (λ (r : Read). r.1) (whole (ts0, broken k c) is) in absurd cc

pub from_any : (line lines : ℕ) (text : List ℕ) (ts : List Token) → Passes 0 text ts lines [] → Passes line text (map (moved line) ts) (lines + line) []
unfolding Passes
from_any line lines text ts h = λ bytes begins.
    moved_none line (text ++ bytes) ∙ ap (read_moved line) (h bytes tt)
    ∙ ap (λ (us : List Token). read_of us (ending_moved line (tokens_at lines bytes).1)) (map-append (moved line) ts (tokens_at lines bytes).0)
    ∙ ap (λ (r : Read). read_of (map (moved line) ts ++ r.0) r.1) (sym (moved_at line lines bytes))

pub shapes_from : (line : ℕ) (ts : List Token) → script.shapes (map (moved line) ts) ≡ script.shapes ts
shapes_from line ts = shapes_moved line ts

-- ---- no more lines than bytes

abbrev line_of : Ending → ℕ
line_of (finished line) = line
line_of (broken line code) = line

abbrev Falls : (ℕ → List ℕ → Read) → Type 0
Falls go = (line : ℕ) (bytes : List ℕ) → line_of (go line bytes).1 ≤ line + length bytes

falls_more : (go : ℕ → List ℕ → Read) → Falls go → (line n : ℕ) (f : First) → ((s : Shape) (left : List ℕ) → f ≡ token s left → length left ≤ n) → line_of (more go line f).1 ≤ line + n
falls_more go each line n (token s left) short = omega (arith, each line left, short s left refl)
falls_more go each line n (fault c) short = omega arith

pub back_short : (left bytes : List ℕ) → IsBack left bytes → length left ≤ length bytes
back_short left bytes h = omega (arith, ap (λ (us : List ℕ). length us) h.parts, length-append h.front left)

falls_class : (go : ℕ → List ℕ → Read) → Falls go → (line b : ℕ) (bytes : List ℕ) (c : Class) → line_of (by_class go line b bytes c).1 ≤ line + length (b ∷ bytes)
falls_class go each line b bytes white = omega (arith, each line bytes)
falls_class go each line b bytes feed = omega (arith, each (line + 1) bytes)
falls_class go each line b bytes hash =
    let n : ℕ = prefix_len (λ c. not (c == 10)) bytes in
    omega (arith, each line (drop n bytes), length-drop n bytes)
falls_class go each line b bytes letter = falls_more go each line (length (b ∷ bytes)) (word_at (b ∷ bytes)) (λ s left e. back_short left (b ∷ bytes) (class_back letter b bytes left s (ap (λ f. Some f) e)))
falls_class go each line b bytes digit = falls_more go each line (length (b ∷ bytes)) (number_at (b ∷ bytes)) (λ s left e. back_short left (b ∷ bytes) (class_back digit b bytes left s (ap (λ f. Some f) e)))
falls_class go each line b bytes quote = falls_more go each line (length (b ∷ bytes)) (symbol_at bytes) (λ s left e. back_short left (b ∷ bytes) (class_back quote b bytes left s (ap (λ f. Some f) e)))
falls_class go each line b bytes other = falls_more go each line (length (b ∷ bytes)) (sign_at (b ∷ bytes)) (λ s left e. back_short left (b ∷ bytes) (class_back other b bytes left s (ap (λ f. Some f) e)))

falls_from : (n line : ℕ) (bytes : List ℕ) → line_of (tokens_from n line bytes).1 ≤ line + length bytes
falls_from zero line bytes = omega arith
falls_from (suc n) line [] = omega arith
falls_from (suc n) line (b ∷ bytes) = falls_class (tokens_from n) (falls_from n) line b bytes (class_of b)

-- bytes that go from one line to another are at least so many
pub passes_few : (line after : ℕ) (text : List ℕ) (ts : List Token) → Passes line text ts after [] → after ≤ line + length text
unfolding Passes
passes_few line after text ts h =
    let e : tokens_at line text ≡ read_of (ts ++ []) (finished after) = ap (tokens_at line) (sym (append-nil text)) ∙ h [] tt in
    let ends : line_of (tokens_at line text).1 ≡ after = ap (λ (r : Read). line_of r.1) e in
    omega (arith, falls_from (length text + 1) line text, ends)
