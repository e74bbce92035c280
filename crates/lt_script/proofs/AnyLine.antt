-- Tokens on whatever line they begin.
use Rattle.std.proofs.Common.{◌≡◌, ℕ, zero, suc, ◌+◌, ◌-◌, ◌≤◌, List, [], ◌∷◌, ◌++◌, length, drop, map, refl, sym, ap, subst, ◌∙◌, arith}
use Rattle.std.specs.Prelude.{not, ◌==◌}
use Rattle.std.specs.List.{prefix_len}
use Rattle.std.proofs.lemmas.List.{map-append}
use Rattle.lt_model.specs.Script as script
use Rattle.lt_model.specs.Tokens as tokens
use Rattle.lt_model.specs.Tokens.{Shape, Token, Read, Class, white, feed, hash, letter, digit, quote, other, class_of, First, word_at, number_at, symbol_at, sign_at, more, by_class, tokens_from, tokens_at}
use Rattle.lt_script.specs.Pieces.{Passes}
use Rattle.lt_script.proofs.Passing.{passes_none, passes_on}

-- ---- a reading from another line

-- the line that is as far below `to` as this one is below `from`
abbrev moved : ℕ → ℕ → ℕ → ℕ
moved from to line = to + (line - from)

abbrev moved_token : ℕ → ℕ → Token → Token
moved_token from to t = record { shape = t.shape; line = moved from to t.line }

abbrev moved_ending : ℕ → ℕ → tokens.Ending → tokens.Ending
moved_ending from to (tokens.finished line) = tokens.finished (moved from to line)
moved_ending from to (tokens.broken line code) = tokens.broken (moved from to line) code

abbrev moved_read : ℕ → ℕ → Read → Read
moved_read from to r = (map (moved_token from to) r.0, moved_ending from to r.1)

more_moves : (go : ℕ → List ℕ → Read) (from to line : ℕ) (f : First) → ((bytes : List ℕ) → moved_read from to (go line bytes) ≡ go (moved from to line) bytes) → moved_read from to (more go line f) ≡ more go (moved from to line) f
more_moves go from to line (tokens.token s rest) same = ap (λ (r : Read). (record { shape = s; line = moved from to line } ∷ r.0, r.1)) (same rest)
more_moves go from to line (tokens.fault c) same = refl

class_moves : (go : ℕ → List ℕ → Read) (from to line b : ℕ) (bytes : List ℕ) (c : Class) → from ≤ line → ((line : ℕ) (bytes : List ℕ) → from ≤ line → moved_read from to (go line bytes) ≡ go (moved from to line) bytes) → moved_read from to (by_class go line b bytes c) ≡ by_class go (moved from to line) b bytes c
class_moves go from to line b bytes white le same = same line bytes le
class_moves go from to line b bytes feed le same = let next : moved from to (line + 1) ≡ moved from to line + 1 = omega (arith, le) in same (line + 1) bytes (omega (arith, le)) ∙ ap (λ k. go k bytes) next
class_moves go from to line b bytes hash le same = same line (drop (prefix_len (λ c. not (c == 10)) bytes) bytes) le
class_moves go from to line b bytes letter le same = more_moves go from to line (word_at (b ∷ bytes)) (λ us. same line us le)
class_moves go from to line b bytes digit le same = more_moves go from to line (number_at (b ∷ bytes)) (λ us. same line us le)
class_moves go from to line b bytes quote le same = more_moves go from to line (symbol_at bytes) (λ us. same line us le)
class_moves go from to line b bytes other le same = more_moves go from to line (sign_at (b ∷ bytes)) (λ us. same line us le)

from_moves : (n from to line : ℕ) (bytes : List ℕ) → from ≤ line → moved_read from to (tokens_from n line bytes) ≡ tokens_from n (moved from to line) bytes
from_moves zero from to line bytes le = refl
from_moves (suc n) from to line [] le = refl
from_moves (suc n) from to line (b ∷ bytes) le = class_moves (tokens_from n) from to line b bytes (class_of b) le (λ k us. from_moves n from to k us)

tokens_move : (from to line : ℕ) (bytes : List ℕ) → from ≤ line → moved_read from to (tokens_at line bytes) ≡ tokens_at (moved from to line) bytes
tokens_move from to line bytes le = from_moves (length bytes + 1) from to line bytes le

same_shapes : (from to : ℕ) (ts : List Token) → script.shapes (map (moved_token from to) ts) ≡ script.shapes ts
same_shapes from to [] = refl
same_shapes from to (t ∷ ts) = ap (λ (us : List Shape). t.shape ∷ us) (same_shapes from to ts)

-- ---- bytes that are passed on whatever line they begin

abbrev pub Goes : List ℕ → List Shape → ℕ → List ℕ → Type 0
Goes front shapes lines left = (line : ℕ) → (ts : List Token) × Passes line front ts (line + lines) left × (script.shapes ts ≡ shapes)

pub goes_so : (line after lines : ℕ) (front left : List ℕ) (ts : List Token) → after ≡ line + lines → Passes line front ts after left → Goes front (script.shapes ts) lines left
unfolding Passes
goes_so line after lines front left ts down passes = λ to. (map (moved_token line to) ts, λ bytes begins. way to bytes (passes bytes begins), same_shapes line to ts)
  where
    read_of : List Token → tokens.Ending → Read
    read_of us ending = (us, ending)

    way : (to : ℕ) (bytes : List ℕ) → tokens_at line (front ++ bytes) ≡ (ts ++ (tokens_at after bytes).0, (tokens_at after bytes).1) → tokens_at to (front ++ bytes) ≡ (map (moved_token line to) ts ++ (tokens_at (to + lines) bytes).0, (tokens_at (to + lines) bytes).1)
    way to bytes is =
        let here : moved line to line ≡ to = omega arith in
        let there : moved line to after ≡ to + lines = omega (arith, down) in
        let other : Read = tokens_at after bytes in
        ap (λ k. tokens_at k (front ++ bytes)) (sym here) ∙ sym (tokens_move line to line (front ++ bytes) (omega arith)) ∙ ap (moved_read line to) is
        ∙ ap (λ (us : List Token). read_of us (moved_ending line to other.1)) (map-append (moved_token line to) ts other.0)
        ∙ ap (λ (r : Read). read_of (map (moved_token line to) ts ++ r.0) r.1) (tokens_move line to after bytes (omega (arith, down)) ∙ ap (λ k. tokens_at k bytes) there)

pub goes_none : (bytes : List ℕ) → Goes [] [] 0 bytes
goes_none bytes = λ line. ([], subst (λ k. Passes line [] [] k bytes) (omega arith) (passes_none line bytes), refl)

-- one front behind another
pub goes_on : (left mid bytes first second : List ℕ) (ts us : List Shape) (lines others : ℕ) → bytes ≡ first ++ mid → mid ≡ second ++ left → Goes first ts lines mid → Goes second us others left → Goes (first ++ second) (ts ++ us) (lines + others) left
goes_on left mid bytes first second ts us lines others one two f g = λ line. go line (f line) (g (line + lines))
  where
    go : (line : ℕ) → ((vs : List Token) × Passes line first vs (line + lines) mid × (script.shapes vs ≡ ts)) → ((vs : List Token) × Passes (line + lines) second vs ((line + lines) + others) left × (script.shapes vs ≡ us))
        → (vs : List Token) × Passes line (first ++ second) vs (line + (lines + others)) left × (script.shapes vs ≡ ts ++ us)
    go line (vs, h, same) (ws, k, others_same) = (
      vs ++ ws,
      subst (λ n. Passes line (first ++ second) (vs ++ ws) n left) (omega arith) (passes_on line (line + lines) ((line + lines) + others) left mid bytes vs ws (record { front = second; parts = two }) (record { front = first; parts = one }) h k),
      map-append (λ (t : Token). t.shape) vs ws ∙ ap (λ (xs : List Shape). xs ++ script.shapes ws) same ∙ ap (λ (xs : List Shape). ts ++ xs) others_same,
    )
