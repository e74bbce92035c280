-- A name as 16 digits to the base 256: its bytes, zeros behind them, and last how many bytes it has.
use Rattle.std.specs.Prelude.{ℕ, ◌-◌, ◌<◌, List, [], ◌∷◌, ◌++◌, length, take, replicate, slice_index}

-- the digits of a name
abbrev pub digits_of : List ℕ → List ℕ
digits_of name = name ++ (replicate (15 - length name) 0 ++ length name ∷ [])

-- the name of such digits
abbrev pub name_in : List ℕ → List ℕ
name_in digits = take (slice_index digits 15) digits

-- each is a byte
abbrev pub AreBytes : List ℕ → Type 0
AreBytes bytes = (i : ℕ) → i < length bytes → slice_index bytes i < 256
