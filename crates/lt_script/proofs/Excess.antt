-- Digits that are found to be too large before all of them were read.
use Rattle.std.proofs.Common.{◌≡◌, ℕ, ◌+◌, ◌-◌, ◌*◌, ◌≤◌, ◌<◌, Bool, true, false, ltb, List, length, drop, get_or, Some, None, sym, ap, arith}
use Rattle.std.specs.Prelude.{fold, cond}
use Rattle.std.proofs.lemmas.Bool.{le-ltb}
use Rattle.lt_model.specs.Grammar.{digits_value}
use Rattle.lt_grammar.specs.Grammar.{past}
use Rattle.lt_script.proofs.Digits.{next_within}

pub past_most : (minus : Bool) → past minus ≤ 9223372036854775809
past_most true = omega arith
past_most false = omega arith

-- ten times the value so far is past the limit
pub past_digits : (limit value i : ℕ) (ds : List ℕ) → i < length ds → limit ≤ 10 * value → fold (λ n d. 10 * n + (d - 48)) value (drop i ds) ≡ digits_value ds → None ≡ cond (ltb (digits_value ds) limit) (Some (digits_value ds)) None
past_digits limit value i ds h big is =
    let grows : 10 * value + (get_or ds i 0 - 48) ≤ digits_value ds = next_within value i ds h is in
    ap (λ b. cond b (Some (digits_value ds)) None) (sym (le-ltb (digits_value ds) limit (omega arith)))
