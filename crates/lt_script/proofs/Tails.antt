-- Whether more bytes may make the last token longer.
use Rattle.std.proofs.Common.{inl, inr, ◌≡◌, ℕ, ◌≤◌, ◌<◌, Bool, true, false, List, [], ◌∷◌, length, Some, refl, sym, ap, subst, ◌∙◌, arith}
use Rattle.std.specs.Prelude.{nat_eq}
use Rattle.std.specs.List.{prefix_len, list_all}
use Rattle.std.proofs.lemmas.List.{append-nil}
use Rattle.lt_model.specs.Tokens as tokens
use Rattle.lt_model.specs.Tokens.{Class, white, feed, hash, letter, digit, quote, other, class_of, in_word, is_digit, First, token, fault, Read}
use Rattle.lt_script.specs.View.{IsOther, IsGapless}
use Rattle.lt_script.specs.Pieces.{IsBack, Leads, Passes, goes_on_by, goes_on, first_by, first_at, Skipped}
use Rattle.lt_script.specs.Ahead.{Source, Place, passed_tokens, IsBehind, decided, undecided, MayChange}
use Rattle.lt_script.proofs.Firsts.{letter_class, digit_class}
use Rattle.lt_script.proofs.Pieces.{leads_then, run_ends, tokens_first}
use Rattle.lt_script.proofs.Passing.{passes_leads}
use Rattle.lt_script.proofs.Skips.{run_whole}

-- ---- the code's test

whole_run : (p : ℕ → Bool) (xs : List ℕ) → nat_eq (prefix_len p xs) (length xs) ≡ list_all p xs
whole_run p xs = go (list_all p xs) refl
  where
    same : (n m : ℕ) → n ≡ m → nat_eq n m ≡ true
    same n m e = Prim.grind arith

    apart : (n m : ℕ) → n < m → nat_eq n m ≡ false
    apart n m h = Prim.grind arith

    go : (b : Bool) → list_all p xs ≡ b → nat_eq (prefix_len p xs) (length xs) ≡ b
    go true e = same (prefix_len p xs) (length xs) (run_whole p xs e)
    go false e = apart (prefix_len p xs) (length xs) (run_ends p xs e)

by_class : (b : ℕ) (bytes : List ℕ) (c : Class) → class_of b ≡ c → goes_on (b ∷ bytes) ≡ goes_on_by c b bytes
by_class b bytes c is = ap (λ k. goes_on_by k b bytes) is

pub tail_letter : (b : ℕ) (bytes : List ℕ) → 97 ≤ b → b ≤ 122 → nat_eq (prefix_len in_word (b ∷ bytes)) (length (b ∷ bytes)) ≡ goes_on (b ∷ bytes)
tail_letter b bytes low high = whole_run in_word (b ∷ bytes) ∙ sym (by_class b bytes letter (letter_class b low high))

pub tail_line : (bytes : List ℕ) → nat_eq (prefix_len in_word (95 ∷ bytes)) (length (95 ∷ bytes)) ≡ goes_on (95 ∷ bytes)
tail_line bytes = whole_run in_word (95 ∷ bytes)

pub tail_digit : (b : ℕ) (bytes : List ℕ) → 48 ≤ b → b ≤ 57 → nat_eq (prefix_len is_digit (b ∷ bytes)) (length (b ∷ bytes)) ≡ goes_on (b ∷ bytes)
tail_digit b bytes low high = whole_run is_digit (b ∷ bytes) ∙ sym (by_class b bytes digit (digit_class b low high))

pub tail_quote : (bytes : List ℕ) → nat_eq (prefix_len in_word bytes) (length bytes) ≡ goes_on (39 ∷ bytes)
tail_quote bytes = whole_run in_word bytes

-- ---- what the cursor answers

class_found : (c : Class) (b : ℕ) (bytes : List ℕ) → IsOther c → (f : First) × (first_by c b bytes ≡ Some f)
class_found white b bytes is = absurd is
class_found feed b bytes is = absurd is
class_found hash b bytes is = absurd is
class_found letter b bytes is = (tokens.word_at (b ∷ bytes), refl)
class_found digit b bytes is = (tokens.number_at (b ∷ bytes), refl)
class_found quote b bytes is = (tokens.symbol_at bytes, refl)
class_found other b bytes is = (tokens.sign_at (b ∷ bytes), refl)

found : (bytes : List ℕ) → IsGapless bytes → goes_on bytes ≡ false → (f : First) × (first_at bytes ≡ Some f)
found [] h e = absurd cc
found (b ∷ bytes) h e = class_found (class_of b) b bytes h

tail_is : (first line : ℕ) (all left : List ℕ) → Skipped first all line left → goes_on left ≡ false → left ≡ [] → ⊥
tail_is first line all left s e none = let there : goes_on [] ≡ false = subst (λ us. goes_on us ≡ false) none e in absurd cc

tail_goes : (first line : ℕ) (all left : List ℕ) (s : Skipped first all line left) → goes_on left ≡ true → goes_on s.tail ≡ true
tail_goes first line all [] s e = s.ends refl
tail_goes first line all (b ∷ left) s e = subst (λ us. goes_on us ≡ true) (sym (s.same (λ none. absurd cc))) e

nothing_first : (line after : ℕ) (tail : List ℕ) (f : First) → Leads line [] [] after tail → first_at tail ≡ Some f → ⊥
nothing_first line after tail f h e = go f (h [] ∙ ap (λ us. tokens.tokens_at after us) (append-nil tail) ∙ tokens_first after tail f e)
  where
    go : (f : First) → tokens.tokens_at line [] ≡ tokens.more tokens.tokens_at after f → ⊥
    go (token s rest) e = let first : [] ≡ (tokens.more tokens.tokens_at after (token s rest)).0 = ap (λ (r : Read). r.0) e in absurd cc
    go (fault c) e = let ends : tokens.finished line ≡ tokens.broken after c = ap (λ (r : Read). r.1) e in absurd cc

-- the way over white space and comments, from behind the tokens that were passed
led : (source : Source) (passed : List tokens.Token) (line after : ℕ) (left rest : List ℕ) (back : IsBack left source.bytes) → Passes source.line back.front passed line left → (s : Skipped line left after rest) → Leads source.line source.bytes passed after s.tail
led source passed line after left rest back h s =
    subst (λ (ts : List tokens.Token). Leads source.line source.bytes ts after s.tail) (append-nil passed)
    (leads_then source.line line after source.bytes left s.tail passed [] (passes_leads source.line line left source.bytes passed back h) (passes_leads line after s.tail left [] s.back s.passes))

pub may_change : (p : Place) (line after : ℕ) (left rest : List ℕ) (b : Bool) → goes_on rest ≡ b → IsBehind p.source (passed_tokens p) line left → Skipped line left after rest → IsGapless rest → MayChange b p
may_change p line after left rest true e (decided back h) s gapless = record {
  before = passed_tokens p;
  line = after;
  tail = s.tail;
  leads = led p.source (passed_tokens p) line after left rest back h s;
  goes = tail_goes line after left rest s e;
  are = inl refl;
}
may_change p line after left rest false e (decided back h) s gapless =
    let same : s.tail ≡ rest = s.same (tail_is line after left rest s e) in
    let f = found rest gapless e in
    record {
      line = after;
      tail = rest;
      leads = subst (λ (us : List ℕ). Leads p.source.line p.source.bytes (passed_tokens p) after us) same (led p.source (passed_tokens p) line after left rest back h s);
      stops = e;
      first = f.0;
      is = f.1;
    }
may_change p line after left rest true e (undecided before last at tail is h goes first none) s gapless = record { before = before; line = at; tail = tail; leads = h; goes = goes; are = inr (last, is) }
may_change p line after left rest false e (undecided before last at tail is h goes first none) s gapless =
    let same : s.tail ≡ rest = s.same (tail_is line after left rest s e) in
    let f = found rest gapless e in
    absurd (nothing_first line after rest f.0 (subst (λ (us : List ℕ). Leads line us [] after rest) none (subst (λ (us : List ℕ). Leads line left [] after us) same (passes_leads line after s.tail left [] s.back s.passes))) f.1)
