use Rattle.std.proofs.Common.{◌≡◌, ◌<◌, true, take}
use Rattle.std.specs.List.{list_all}
use Rattle.lt_model.specs.Grammar.{digits_value}
use Rattle.lt_model.specs.Tokens.{is_digit}
use Rattle.lt_script.proofs.fitting.number_at.Given as goal

-- the bytes so far are digits of this value
abbrev pub invariant-digits : goal.invariant-digits
invariant-digits l = record {
  value : l.value ≡ digits_value (take l.i l.bytes);
  digits : list_all is_digit (take l.i l.bytes) ≡ true;
  small : l.value < 9223372036854775808;
}
