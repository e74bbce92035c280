-- Bytes that are the last of others.
use Rattle.std.proofs.Common.{◌≡◌, ℕ, Bool, true, false, cond, ◌&&◌, ◌||◌, ◌==◌, List, [], ◌∷◌, ◌++◌, length, take, drop, Option, Some, None, refl, sym, ap, subst, ◌∙◌, append_assoc, arith}
use Rattle.std.specs.Prelude.{nat_lt, nat_eq, not, find}
use Rattle.std.specs.List.{prefix_len, starts_with}
use Rattle.std.proofs.lemmas.List.{take-append-drop}
use Rattle.lt_model.specs.Grammar.{semicolon}
use Rattle.lt_model.specs.Tokens as tokens
use Rattle.lt_model.specs.Tokens.{Class, white, feed, hash, letter, digit, quote, other, class_of, in_word, is_digit, First, signs, sign_found}
use Rattle.lt_script.specs.Pieces.{IsBack, first_by, first_at}
use Rattle.lt_script.proofs.Pieces.{find_holds}

abbrev pub back_same : (bytes : List ℕ) → IsBack bytes bytes
back_same bytes = record { front = []; parts = refl }

abbrev pub back_on : (left mid bytes : List ℕ) → IsBack left mid → IsBack mid bytes → IsBack left bytes
back_on left mid bytes f g = record { front = g.front ++ f.front; parts = g.parts ∙ ap (λ (us : List ℕ). g.front ++ us) f.parts ∙ sym (append_assoc g.front f.front left) }

abbrev pub back_tail : (b : ℕ) (bytes : List ℕ) → IsBack bytes (b ∷ bytes)
back_tail b bytes = record { front = b ∷ []; parts = refl }

abbrev pub back_drop : (n : ℕ) (bytes : List ℕ) → IsBack (drop n bytes) bytes
back_drop n bytes = record { front = take n bytes; parts = sym (take-append-drop n bytes) }

-- ---- behind a token

abbrev IsToken : Option First → tokens.Shape → List ℕ → Type 0
IsToken o s left = o ≡ Some (tokens.token s left)

back_of : (rest left bytes : List ℕ) → rest ≡ left → IsBack rest bytes → IsBack left bytes
back_of rest left bytes same h = subst (λ (us : List ℕ). IsBack us bytes) same h

word_back : (n : ℕ) (bytes left : List ℕ) (s : tokens.Shape) (b : Bool) → IsToken (Some (cond b (tokens.fault 5) (tokens.token (tokens.word (take n bytes)) (drop n bytes)))) s left → IsBack left bytes
word_back n bytes left s true e = absurd cc
word_back n bytes left s false e = let same : drop n bytes ≡ left = cc in back_of (drop n bytes) left bytes same (back_drop n bytes)

quote_back : (x y : Bool) (text rest left : List ℕ) (s : tokens.Shape) → IsToken (Some (cond x (tokens.fault 1) (cond y (tokens.fault 4) (tokens.token (tokens.symbol text) rest)))) s left → rest ≡ left
quote_back true y text rest left s e = absurd cc
quote_back false true text rest left s e = absurd cc
quote_back false false text rest left s e = cc

pub symbol_back : (n : ℕ) (text rest left : List ℕ) (s : tokens.Shape) → IsToken (Some (tokens.close_symbol n text rest)) s left → IsBack left rest
symbol_back n text [] left s e = absurd cc
symbol_back n text (c ∷ rest) left s e = back_of rest left (c ∷ rest) (quote_back (not (c == 39)) ((n == 0) || nat_lt 15 n) text rest left s e) (back_tail c rest)

sign_back : (o : Option (List ℕ)) (bytes left : List ℕ) (s : tokens.Shape) → IsToken (Some (sign_found o bytes)) s left → IsBack left bytes
sign_back None bytes left s e = absurd cc
sign_back (Some text) bytes left s e = let same : drop (length text) bytes ≡ left = cc in back_of (drop (length text) bytes) left bytes same (back_drop (length text) bytes)

pub class_back : (c : Class) (b : ℕ) (bytes left : List ℕ) (s : tokens.Shape) → IsToken (first_by c b bytes) s left → IsBack left (b ∷ bytes)
class_back white b bytes left s e = absurd cc
class_back feed b bytes left s e = absurd cc
class_back hash b bytes left s e = absurd cc
class_back letter b bytes left s e = let n : ℕ = prefix_len in_word (b ∷ bytes) in word_back n (b ∷ bytes) left s (nat_lt 15 n) e
class_back digit b bytes left s e =
    let n : ℕ = prefix_len is_digit (b ∷ bytes) in
    let same : drop n (b ∷ bytes) ≡ left = cc in
    back_of (drop n (b ∷ bytes)) left (b ∷ bytes) same (back_drop n (b ∷ bytes))
class_back quote b bytes left s e =
    let n : ℕ = prefix_len in_word bytes in
    back_on left bytes (b ∷ bytes) (back_on left (drop n bytes) bytes (symbol_back n (take n bytes) (drop n bytes) left s e) (back_drop n bytes)) (back_tail b bytes)
class_back other b bytes left s e = sign_back (find (λ t. starts_with nat_eq (b ∷ bytes) t) signs) (b ∷ bytes) left s e

-- what is left behind the first token
pub token_back : (tail left : List ℕ) (s : tokens.Shape) → IsToken (first_at tail) s left → IsBack left tail
token_back [] left s e = absurd cc
token_back (b ∷ bytes) left s e = class_back (class_of b) b bytes left s e

-- ---- a semicolon

word_no : (x : Bool) (text rest left : List ℕ) → IsToken (Some (cond x (tokens.fault 5) (tokens.token (tokens.word text) rest))) semicolon left → ⊥
word_no true text rest left e = absurd cc
word_no false text rest left e = absurd cc

quote_no : (x y : Bool) (text rest left : List ℕ) → IsToken (Some (cond x (tokens.fault 1) (cond y (tokens.fault 4) (tokens.token (tokens.symbol text) rest)))) semicolon left → ⊥
quote_no true y text rest left e = absurd cc
quote_no false true text rest left e = absurd cc
quote_no false false text rest left e = absurd cc

symbol_no : (n : ℕ) (text rest left : List ℕ) → IsToken (Some (tokens.close_symbol n text rest)) semicolon left → ⊥
symbol_no n text [] left e = absurd cc
symbol_no n text (c ∷ rest) left e = quote_no (not (c == 39)) ((n == 0) || nat_lt 15 n) text rest left e

first_same : (b : ℕ) (bytes : List ℕ) → starts_with nat_eq (b ∷ bytes) (59 ∷ []) ≡ true → b ≡ 59
first_same b bytes h = go (nat_eq 59 b) refl h
  where
    go : (x : Bool) → nat_eq 59 b ≡ x → (x && true) ≡ true → b ≡ 59
    go true is e = Prim.grind arith
    go false is e = absurd cc

sign_only : (b : ℕ) (bytes left : List ℕ) (o : Option (List ℕ)) → ((t : List ℕ) → o ≡ Some t → starts_with nat_eq (b ∷ bytes) t ≡ true) → IsToken (Some (sign_found o (b ∷ bytes))) semicolon left → b ∷ bytes ≡ 59 ∷ left
sign_only b bytes left None begins e = absurd cc
sign_only b bytes left (Some t) begins e =
    let is : t ≡ 59 ∷ [] = cc in
    let behind : drop (length t) (b ∷ bytes) ≡ left = cc in
    let one : bytes ≡ left = subst (λ (us : List ℕ). drop (length us) (b ∷ bytes) ≡ left) is behind in
    let first : b ≡ 59 = first_same b bytes (subst (λ (us : List ℕ). starts_with nat_eq (b ∷ bytes) us ≡ true) is (begins t refl)) in
    rw (first, one) refl

class_semicolon : (c : Class) (b : ℕ) (bytes left : List ℕ) → IsToken (first_by c b bytes) semicolon left → b ∷ bytes ≡ 59 ∷ left
class_semicolon white b bytes left e = absurd cc
class_semicolon feed b bytes left e = absurd cc
class_semicolon hash b bytes left e = absurd cc
class_semicolon letter b bytes left e = let n : ℕ = prefix_len in_word (b ∷ bytes) in absurd (word_no (nat_lt 15 n) (take n (b ∷ bytes)) (drop n (b ∷ bytes)) left e)
class_semicolon digit b bytes left e = absurd cc
class_semicolon quote b bytes left e = let n : ℕ = prefix_len in_word bytes in absurd (symbol_no n (take n bytes) (drop n bytes) left e)
class_semicolon other b bytes left e = sign_only b bytes left (find (λ t. starts_with nat_eq (b ∷ bytes) t) signs) (λ t is. find_holds (λ s. starts_with nat_eq (b ∷ bytes) s) signs t is) e

-- it is one byte
pub semicolon_back : (tail left : List ℕ) → IsToken (first_at tail) semicolon left → tail ≡ 59 ∷ left
semicolon_back [] left e = absurd cc
semicolon_back (b ∷ bytes) left e = class_semicolon (class_of b) b bytes left e
