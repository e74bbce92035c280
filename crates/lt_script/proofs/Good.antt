-- The symbols among the tokens of bytes: each is 1 to 15 bytes of a word.
use Rattle.std.proofs.Common.{◌≡◌, ℕ, zero, suc, ◌+◌, ◌==◌, Bool, true, false, List, [], ◌∷◌, ◌++◌, length, take, drop, Option, Some, None, refl, sym, subst, arith}
use Rattle.std.specs.Prelude.{◌&&◌, ◌||◌, not, nat_lt, nat_eq, find, if◌then◌else◌}
use Rattle.std.specs.List.{AllByRecursion, list_all, prefix_len, starts_with}
use Rattle.lt_model.specs.Tokens.{Shape, word, number, symbol, sign, Token, Class, white, feed, hash, letter, digit, quote, other, class_of, in_word, between, First, token, fault, word_at, number_at, symbol_at, close_symbol, sign_at, sign_found, signs, Read, more, by_class, tokens_from, tokens_at}
use Rattle.lt_model.specs.Script as script
use Rattle.lt_values.specs.Symbols.{is_symbol}
use Rattle.lt_script.specs.Ahead.{Place, read_all, shapes}
use Rattle.lt_script.proofs.Words.{all_of_run}

abbrev pub IsGood : Shape → Type 0
IsGood (word text) = Unit {0}
IsGood (number text) = Unit {0}
IsGood (symbol text) = is_symbol text ≡ true
IsGood (sign text) = Unit {0}

abbrev pub AreGood : List Shape → Type 0
AreGood ts = AllByRecursion IsGood ts

-- ---- one token

abbrev IsGoodFirst : First → Type 0
IsGoodFirst (token s rest) = IsGood s
IsGoodFirst (fault c) = Unit {0}

good_word : (bytes : List ℕ) → IsGoodFirst (word_at bytes)
good_word bytes = go (nat_lt 15 (prefix_len in_word bytes))
  where
    go : (b : Bool) → IsGoodFirst (if b then fault 5 else token (word (take (prefix_len in_word bytes) bytes)) (drop (prefix_len in_word bytes) bytes))
    go true = tt
    go false = tt

taken_more : (p : ℕ → Bool) (x : ℕ) (xs : List ℕ) (b : Bool) → p x ≡ b → length (take (prefix_len p xs) xs) ≡ prefix_len p xs → length (take (prefix_len p (x ∷ xs)) (x ∷ xs)) ≡ prefix_len p (x ∷ xs)
taken_more p x xs true e h =
    let n : ℕ = prefix_len p xs in
    let more : length (x ∷ take n xs) ≡ suc n = omega (arith, h) in
    let longer : suc n ≡ 1 + n = omega arith in
    rw e (subst (λ (k : ℕ). length (take k (x ∷ xs)) ≡ k) longer more)
taken_more p x xs false e h = rw e refl

-- a run at the front is as long as it was found to be
taken : (p : ℕ → Bool) (xs : List ℕ) → length (take (prefix_len p xs) xs) ≡ prefix_len p xs
taken p [] = refl
taken p (x ∷ xs) = taken_more p x xs (p x) refl (taken p xs)

both_true : (a b : Bool) → a ≡ true → b ≡ true → (a && b) ≡ true
both_true a b h k = rw (h, k) refl

in_length : (n : ℕ) → ((n == 0) || nat_lt 15 n) ≡ false → between 1 15 n ≡ true
in_length n h = Prim.grind arith

good_close : (n : ℕ) (text rest : List ℕ) → (between 1 15 n ≡ true → is_symbol text ≡ true) → IsGoodFirst (close_symbol n text rest)
good_close n text [] h = tt
good_close n text (b ∷ rest) h = go (not (b == 39)) ((n == 0) || nat_lt 15 n) refl
  where
    go : (x y : Bool) → ((n == 0) || nat_lt 15 n) ≡ y → IsGoodFirst (if x then fault 1 else (if y then fault 4 else token (symbol text) rest))
    go true y e = tt
    go false true e = tt
    go false false e = h (in_length n e)

good_symbol : (bytes : List ℕ) → IsGoodFirst (symbol_at bytes)
good_symbol bytes =
    let n : ℕ = prefix_len in_word bytes in
    good_close n (take n bytes) (drop n bytes)
    (λ h. both_true (between 1 15 (length (take n bytes))) (list_all in_word (take n bytes)) (subst (λ (k : ℕ). between 1 15 k ≡ true) (sym (taken in_word bytes)) h) (all_of_run in_word bytes))

good_sign : (o : Option (List ℕ)) (bytes : List ℕ) → IsGoodFirst (sign_found o bytes)
good_sign None bytes = tt
good_sign (Some text) bytes = tt

-- ---- all tokens

abbrev AreGoodRead : Read → Type 0
AreGoodRead r = AreGood (script.shapes r.0)

good_more : (go : ℕ → List ℕ → Read) → ((line : ℕ) (bytes : List ℕ) → AreGoodRead (go line bytes)) → (line : ℕ) (f : First) → IsGoodFirst f → AreGoodRead (more go line f)
good_more go each line (token s rest) h = (h, each line rest)
good_more go each line (fault c) h = tt

good_class : (go : ℕ → List ℕ → Read) → ((line : ℕ) (bytes : List ℕ) → AreGoodRead (go line bytes)) → (line b : ℕ) (bytes : List ℕ) (c : Class) → AreGoodRead (by_class go line b bytes c)
good_class go each line b bytes white = each line bytes
good_class go each line b bytes feed = each (line + 1) bytes
good_class go each line b bytes hash = each line (drop (prefix_len (λ c. not (c == 10)) bytes) bytes)
good_class go each line b bytes letter = good_more go each line (word_at (b ∷ bytes)) (good_word (b ∷ bytes))
good_class go each line b bytes digit = good_more go each line (number_at (b ∷ bytes)) tt
good_class go each line b bytes quote = good_more go each line (symbol_at bytes) (good_symbol bytes)
good_class go each line b bytes other = good_more go each line (sign_at (b ∷ bytes)) (good_sign (find (λ s. starts_with nat_eq (b ∷ bytes) s) signs) (b ∷ bytes))

good_from : (n line : ℕ) (bytes : List ℕ) → AreGoodRead (tokens_from n line bytes)
good_from zero line bytes = tt
good_from (suc n) line [] = tt
good_from (suc n) line (b ∷ bytes) = good_class (tokens_from n) (good_from n) line b bytes (class_of b)

pub tokens_good : (line : ℕ) (bytes : List ℕ) → AreGood (script.shapes (tokens_at line bytes).0)
tokens_good line bytes = good_from (length bytes + 1) line bytes

good_drop : (n : ℕ) (ts : List Token) → AreGood (script.shapes ts) → AreGood (script.shapes (drop n ts))
good_drop zero ts h = h
good_drop (suc n) [] h = tt
good_drop (suc n) (t ∷ ts) h = good_drop n ts h.1

pub shapes_good : (p : Place) → AreGood (shapes p)
unfolding shapes
shapes_good p = good_drop p.passed (read_all p.source).0 (good_from (length p.source.bytes + 1) p.source.line p.source.bytes)

pub both_good : (xs ys : List Shape) → AreGood (xs ++ ys) → AreGood xs × AreGood ys
both_good [] ys h = (tt, h)
both_good (x ∷ xs) ys h = let m = both_good xs ys h.1 in ((h.0, m.0), m.1)
