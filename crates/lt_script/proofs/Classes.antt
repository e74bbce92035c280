-- Bytes and their classes.
use Rattle.std.proofs.Common.{◌≡◌, ℕ, ◌≤◌, Bool, true, false, cond, ◌||◌, ◌==◌, refl, arith}
use Rattle.lt_model.specs.Tokens.{feed, white, hash, letter, digit, quote, other, between, class_of, in_word, is_digit}
use Rattle.lt_script.proofs.Firsts.{digit_class}

pub digit_in_word : (b : ℕ) → is_digit b ≡ true → in_word b ≡ true
digit_in_word b h = go (between 97 122 b) (between 48 57 b) (b == 95) h
  where
    go : (x y z : Bool) → y ≡ true → (x || y || z) ≡ true
    go true y z h = refl
    go false true z h = refl
    go false false z h = absurd cc

pub digit_least : (b : ℕ) → is_digit b ≡ true → 48 ≤ b
digit_least b h = Prim.grind arith

pub digit_most : (b : ℕ) → is_digit b ≡ true → b ≤ 57
digit_most b h = Prim.grind arith

pub digit_is : (b : ℕ) → is_digit b ≡ true → class_of b ≡ digit
digit_is b h = digit_class b (digit_least b h) (digit_most b h)

digit_only : (x1 x2 x3 x4 x5 x6 : Bool) → cond x1 feed (cond x2 white (cond x3 hash (cond x4 letter (cond x5 digit (cond x6 quote other))))) ≡ digit → x5 ≡ true
digit_only true x2 x3 x4 x5 x6 e = absurd cc
digit_only false true x3 x4 x5 x6 e = absurd cc
digit_only false false true x4 x5 x6 e = absurd cc
digit_only false false false true x5 x6 e = absurd cc
digit_only false false false false true x6 e = refl
digit_only false false false false false true e = absurd cc
digit_only false false false false false false e = absurd cc

quote_only : (x1 x2 x3 x4 x5 x6 : Bool) → cond x1 feed (cond x2 white (cond x3 hash (cond x4 letter (cond x5 digit (cond x6 quote other))))) ≡ quote → x6 ≡ true
quote_only true x2 x3 x4 x5 x6 e = absurd cc
quote_only false true x3 x4 x5 x6 e = absurd cc
quote_only false false true x4 x5 x6 e = absurd cc
quote_only false false false true x5 x6 e = absurd cc
quote_only false false false false true x6 e = absurd cc
quote_only false false false false false true e = refl
quote_only false false false false false false e = absurd cc

pub digit_of : (b : ℕ) → class_of b ≡ digit → is_digit b ≡ true
digit_of b h = digit_only (b == 10) ((b == 32) || (b == 9) || (b == 13)) (b == 35) (between 97 122 b || (b == 95)) (between 48 57 b) (b == 39) h

pub same_byte : (b n : ℕ) → (b == n) ≡ true → b ≡ n
same_byte b n h = Prim.grind arith

pub quote_of : (b : ℕ) → class_of b ≡ quote → b ≡ 39
quote_of b h = same_byte b 39 (quote_only (b == 10) ((b == 32) || (b == 9) || (b == 13)) (b == 35) (between 97 122 b || (b == 95)) (between 48 57 b) (b == 39) h)

hash_only : (x1 x2 x3 x4 x5 x6 : Bool) → cond x1 feed (cond x2 white (cond x3 hash (cond x4 letter (cond x5 digit (cond x6 quote other))))) ≡ hash → x3 ≡ true
hash_only true x2 x3 x4 x5 x6 e = absurd cc
hash_only false true x3 x4 x5 x6 e = absurd cc
hash_only false false true x4 x5 x6 e = refl
hash_only false false false true x5 x6 e = absurd cc
hash_only false false false false true x6 e = absurd cc
hash_only false false false false false true e = absurd cc
hash_only false false false false false false e = absurd cc

pub hash_of : (b : ℕ) → class_of b ≡ hash → b ≡ 35
hash_of b h = same_byte b 35 (hash_only (b == 10) ((b == 32) || (b == 9) || (b == 13)) (b == 35) (between 97 122 b || (b == 95)) (between 48 57 b) (b == 39) h)
