-- Worked examples of symbols.
use Rattle.std.proofs.Common.{◌≡◌, true, false, [], refl}
use Rattle.std.specs.Prelude.{codes}
use Rattle.lt_values.specs.Symbols.{is_symbol}

longest : is_symbol (codes "abcdefghijklmno") ≡ true
longest = refl

too_long : is_symbol (codes "abcdefghijklmnop") ≡ false
too_long = refl

empty : is_symbol [] ≡ false
empty = refl

digit_first : is_symbol (codes "9_a") ≡ true
digit_first = refl

uppercase : is_symbol (codes "aB") ≡ false
uppercase = refl
