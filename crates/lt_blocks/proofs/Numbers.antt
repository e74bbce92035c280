-- Numbers as they are written.
use Rattle.std.proofs.Common.{◌≡◌, ◌<◌, ◌^◌, ℕ, List, [], ◌∷◌, ◌++◌, Result, Ok, sym, subst, ap, ◌∙◌, decimal, arith}
use Rattle.std.specs.Str.Parse.{AllDigits, ParsesUnsigned, digits_value}
use Rattle.std.proofs.lemmas.Str.Parse.{IsNumeralModel, numerals_by_value, parse_gives, tells_digits}
use Rattle.std.proofs.lemmas.Fmt.{decimal_nonempty, digits_decimal, digits_value-decimal}
use Rattle.lt_blocks.specs.Lines.{Lacks}
use Rattle.lt_blocks.proofs.Cuts.{cut_same, stands}

own : IsNumeralModel (AllDigits 10) (digits_value 10)
own = numerals_by_value (AllDigits 10) tells_digits

-- a number that is written is read again
pub decimal_parses : {E : Type 0} (n : ℕ) (bs : List ℕ) (r : Result ℕ E) → n < 2 ^ 32 → bs ≡ decimal n → ParsesUnsigned 32 10 bs r → r ≡ Ok n
decimal_parses n bs r small is h =
    let wide : n < 2 ^ 64 = omega (arith, small) in
    let value : digits_value 10 (decimal n) ≡ n = digits_value-decimal own n wide in
    parse_gives own 32 (decimal n) r (subst (λ (l : List ℕ). ParsesUnsigned 32 10 l r) is h) (digits_decimal own n wide) (decimal_nonempty n wide) (omega (arith, value, small)) ∙ ap (λ m. Ok m) value

-- it has digits alone
digits_lack : (c : ℕ) → c < 48 → (ds : List ℕ) → AllDigits 10 ds → Lacks c ds
digits_lack c low [] d = tt
digits_lack c low (x ∷ xs) d = let p = tells_digits.parts x xs d in ((λ e. absurd (omega (arith, p.0.0, e, low))), digits_lack c low xs p.1)

pub decimal_lacks : (c n : ℕ) → c < 48 → n < 2 ^ 32 → Lacks c (decimal n)
decimal_lacks c n low small = digits_lack c low (decimal n) (digits_decimal own n (omega (arith, small)))

-- what stands behind a number and a space
pub behind_number : (m n : ℕ) (x y : List ℕ) → m < 2 ^ 32 → n < 2 ^ 32 → decimal m ++ (32 ∷ x) ≡ decimal n ++ (32 ∷ y) → x ≡ y
behind_number m n x y p q e = (cut_same 32 (decimal m) (decimal n) x y (decimal_lacks 32 m (omega arith) p) (decimal_lacks 32 n (omega arith) q) e).1

pub no_space : (n : ℕ) (line rest : List ℕ) → Lacks 32 line → line ≡ decimal n ++ (32 ∷ rest) → ⊥
no_space n line rest p e = stands 32 (decimal n) rest (subst (Lacks 32) e p)

-- the word before the first space is the number
pub word_is : (word behind line : List ℕ) (n : ℕ) (rest : List ℕ) → line ≡ word ++ (32 ∷ behind) → Lacks 32 word → n < 2 ^ 32 → line ≡ decimal n ++ (32 ∷ rest) → word ≡ decimal n
word_is word behind line n rest e p small is = (cut_same 32 word (decimal n) behind rest p (decimal_lacks 32 n (omega arith) small) (sym e ∙ is)).0
