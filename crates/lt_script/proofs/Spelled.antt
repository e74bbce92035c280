-- Digits at the front of bytes, and their number.
use Rattle.std.proofs.Common.{◌≡◌, ℕ, ◌<◌, Bool, true, false, IsTrue, ltb, List, take, Some, None, Option, refl, ap, ◌∙◌}
use Rattle.std.specs.Prelude.{cond, unwrap_or}
use Rattle.std.specs.List.{prefix_len, list_all}
use Rattle.std.proofs.lemmas.Bool.{ltb-true}
use Rattle.lt_model.specs.Grammar.{signed_cell}
use Rattle.lt_model.specs.Tokens.{is_digit}
use Rattle.lt_script.proofs.Words.{all_of_run}

pub digits_there : (bytes digits : List ℕ) (len : ℕ) → digits ≡ take len bytes → len ≡ prefix_len is_digit bytes → IsTrue (list_all is_digit digits)
digits_there bytes digits len is long = rw is (rw long (all_of_run is_digit bytes))

some_of : (b : Bool) (v number : ℕ) → Some number ≡ cond b (Some v) None → (b ≡ true) × (number ≡ v)
some_of true v number e = (refl, ap (λ (o : Option ℕ). unwrap_or o v) e)
some_of false v number e = absurd cc

pub in_range : (v m number : ℕ) → Some number ≡ cond (ltb v m) (Some v) None → (v < m) × (number ≡ v)
in_range v m number e = let found = some_of (ltb v m) v number e in (ltb-true v m found.0, found.1)

pub same_cell : (minus : Bool) (v number cell : ℕ) → cell ≡ signed_cell minus number → number ≡ v → cell ≡ signed_cell minus v
same_cell minus v number cell is e = is ∙ ap (signed_cell minus) e
