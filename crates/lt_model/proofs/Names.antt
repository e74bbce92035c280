-- Names are the same where their digits are the same number.
use Rattle.std.proofs.Common.{◌≡◌, ℕ, zero, suc, ◌-◌, ◌<◌, ◌≤◌, List, [], ◌∷◌, ◌++◌, length, nat_eq, replicate, sym, ap, ◌∙◌, subst, arith}
use Rattle.std.specs.Bool.{Decides}
use Rattle.std.specs.Int.{w128, from_be_bytes, bytes_high_first}
use Rattle.std.specs.Cmp.Lexicographic.{pointwise, bytes_decides}
use Rattle.std.proofs.lemmas.Bool.Decides.{same_from_decides, Decides-eqb, Decides-like}
use Rattle.lt_model.specs.Names.{digits_of, name_in, AreBytes}
use Rattle.lt_model.proofs.Digits.{number, AreDigits, digits_back, bytes_number}

-- the digits of a number are those that it was made of
digits_same : (a b : List ℕ) → length a ≡ 16 → length b ≡ 16 → AreDigits a → AreDigits b → from_be_bytes w128 a ≡ from_be_bytes w128 b → a ≡ b
digits_same a b long_a long_b digits_a digits_b e =
    let same : number a ≡ number b = sym (bytes_number a long_a) ∙ e ∙ bytes_number b long_b in
    sym (digits_back a 0 16 long_a digits_a) ∙ ap (bytes_high_first 16) same ∙ digits_back b 0 16 long_b digits_b

all_bytes : (bytes : List ℕ) → AreBytes bytes → AreDigits bytes
all_bytes [] all = tt
all_bytes (b ∷ bytes) all = (all 0 (omega arith), all_bytes bytes (λ i lt. all (suc i) (omega (arith, lt))))

behind : (front back : List ℕ) → AreDigits front → AreDigits back → AreDigits (front ++ back)
behind [] back f g = g
behind (d ∷ front) back f g = (f.0, behind front back f.1 g)

zeros : (n : ℕ) (back : List ℕ) → AreDigits back → AreDigits (replicate n 0 ++ back)
zeros zero back g = g
zeros (suc n) back g = (omega arith, zeros n back g)

digits_small : (name : List ℕ) → AreBytes name → length name ≤ 15 → AreDigits (digits_of name)
digits_small name all few =
    let last : length name < 256 = omega (arith, few) in
    behind name (replicate (15 - length name) 0 ++ length name ∷ []) (all_bytes name all) (zeros (15 - length name) (length name ∷ []) (last, tt))

-- the digits of a name are a number that no other name has
abbrev pub IsNameIn : List ℕ → Type 0
IsNameIn a = (length (name_in a) ≤ 15) × AreBytes (name_in a) × (a ≡ digits_of (name_in a))

pub same_names : (a b : List ℕ) → length a ≡ 16 → length b ≡ 16 → IsNameIn a → IsNameIn b
    → nat_eq (from_be_bytes w128 a) (from_be_bytes w128 b) ≡ pointwise nat_eq (name_in a) (name_in b)
same_names a b long_a long_b one other =
    same_from_decides (nat_eq (from_be_bytes w128 a) (from_be_bytes w128 b)) (pointwise nat_eq (name_in a) (name_in b)) numbers texts
  where
    is_a : a ≡ digits_of (name_in a)
    is_a = one.2

    is_b : b ≡ digits_of (name_in b)
    is_b = other.2

    digits_a : AreDigits a
    digits_a = subst AreDigits (sym is_a) (digits_small (name_in a) one.1 one.0)

    digits_b : AreDigits b
    digits_b = subst AreDigits (sym is_b) (digits_small (name_in b) other.1 other.0)

    numbers : Decides (nat_eq (from_be_bytes w128 a) (from_be_bytes w128 b)) (a ≡ b)
    numbers = Decides-like (nat_eq (from_be_bytes w128 a) (from_be_bytes w128 b)) (digits_same a b long_a long_b digits_a digits_b) (λ e. ap (from_be_bytes w128) e)
        (Decides-eqb (from_be_bytes w128 a) (from_be_bytes w128 b))

    texts : Decides (pointwise nat_eq (name_in a) (name_in b)) (a ≡ b)
    texts = Decides-like (pointwise nat_eq (name_in a) (name_in b)) (λ e. is_a ∙ ap digits_of e ∙ sym is_b) (λ e. ap name_in e) (bytes_decides (name_in a) (name_in b))
