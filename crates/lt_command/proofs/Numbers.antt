-- Numbers that a parser of numbers read.
use Rattle.std.proofs.Common.{◌≡◌, ◌^◌, ◌&&◌, ℕ, Bool, true, false, refl, ap, List, [], ◌∷◌, length, Option, Some, None, Result, Ok, Err, nat_lt, lt-ltb, ltb-true}
use Rattle.std.specs.Prelude.{option_and_then}
use Rattle.std.specs.List.{list_all}
use Rattle.std.specs.Char.{digit_value}
use Rattle.std.specs.Str.Parse.{AllDigits, ParsesUnsigned, digits_value, without_leading_plus}
use Rattle.clap.specs.Matches.{ReadsOne}
use Rattle.clap.specs.ValueTests.{is_numeral}
use Rattle.clap.proofs.WalkLemmas.{both}
use Rattle.lt_command.specs.Command.{number_of}

digits_pass : (ds : List ℕ) → AllDigits 10 ds → list_all (λ d. nat_lt (digit_value d) 10) ds ≡ true
digits_pass [] h = refl
digits_pass (d ∷ ds) h = rw (lt-ltb (digit_value d) 10 h.0) (digits_pass ds h.1)

digits_from : (ds : List ℕ) → list_all (λ d. nat_lt (digit_value d) 10) ds ≡ true → AllDigits 10 ds
digits_from [] e = tt
digits_from (d ∷ ds) e =
    let parts = both _ _ e in
    (ltb-true _ _ parts.0, digits_from ds parts.1)

abbrev fits : ℕ → List ℕ → Bool
fits k ds = is_numeral ds && nat_lt (digits_value 10 ds) (2 ^ k)

parsed : (E : Type 0) (k : ℕ) (text : List ℕ) (n : ℕ) → ParsesUnsigned {E = E} k 10 text (Ok n) → Some n ≡ number_of k text
parsed E k text n h =
    let ds = without_leading_plus text in
    rw (lt-ltb 0 (length ds) h.0.0.0, digits_pass ds h.0.0.1, lt-ltb (digits_value 10 ds) (2 ^ k) h.0.1) (ap (λ (x : ℕ). Some x) h.1)

unparsed : (E : Type 0) (k : ℕ) (text : List ℕ) (e : E) → ParsesUnsigned {E = E} k 10 text (Err e) → None ≡ number_of k text
unparsed E k text e h = go (fits k (without_leading_plus text)) refl
  where
    go : (b : Bool) → fits k (without_leading_plus text) ≡ b → None ≡ number_of k text
    go false t = rw t refl
    go true t =
        let outer = both _ _ t in
        let inner = both _ _ outer.0 in
        absurd (h ((ltb-true _ _ inner.0, digits_from (without_leading_plus text) inner.1), ltb-true _ _ outer.1))

-- what was read of a text is the number that it spells
pub number_read : (E : Type 0) (gives : List ℕ → Result ℕ E → Type 0) (k : ℕ) (text : List ℕ) (r : Option ℕ)
    → ((u : List ℕ) (x : Result ℕ E) → gives u x → ParsesUnsigned k 10 u x) → ReadsOne gives text r → r ≡ number_of k text
number_read E gives k text (Some n) only read = parsed E k text n (only text (Ok n) read)
number_read E gives k text None only read = unparsed E k text read.0 (only text (Err read.0) read.1)

-- what a getter answers at a text that may be there
pub text_read : (o : Option (List ℕ)) (r : Option ℕ) (f : List ℕ → Option ℕ) → (o ≡ None → r ≡ None) → ((t : List ℕ) → o ≡ Some t → r ≡ f t) → r ≡ option_and_then f o
text_read None r f none some = none refl
text_read (Some t) r f none some = some t refl
