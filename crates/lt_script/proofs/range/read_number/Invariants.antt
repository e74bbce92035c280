use Rattle.std.proofs.Common.{◌≡◌, ◌+◌, ◌-◌, ◌*◌, drop}
use Rattle.std.specs.Prelude.{fold}
use Rattle.lt_model.specs.Grammar.{digits_value}
use Rattle.lt_script.proofs.range.read_number.Given as goal

-- the digits so far have this value, and the others go on from it
abbrev pub invariant-digits : goal.invariant-digits
invariant-digits l = fold (λ n d. 10 * n + (d - 48)) l.value (drop l.digit-index l.digits) ≡ digits_value l.digits
