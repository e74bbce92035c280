-- An iterator that searches a list from the first key on.
use Rattle.std.proofs.Common.{◌≡◌, ℕ, true, false, List, [], ◌∷◌, refl, inl, inr, arith, nat_lt, unwrap_or}
use Rattle.std.specs.Prelude.{find, not}
use Rattle.std.proofs.lemmas.Bool.{cases_lt}
use Rattle.std.proofs.lemmas.Bool.Decides.{nat_tests}
use Rattle.lt_face.specs.Keys.{end_key, least_from, IsKeyList, IsPlace}
use Rattle.lt_face.proofs.KeyLemmas.{least_again, le_yes, le_no}

pub least_find : (keys : List ℕ) (bound : ℕ) → unwrap_or (find (λ key. not (nat_lt key bound)) keys) end_key ≡ least_from keys bound
least_find [] bound = refl
least_find (key ∷ keys) bound =
    elim (cases_lt key bound) [
      | inl below ↦
          let past : nat_lt key bound ≡ true = grind (arith, nat_tests) in
          rw (past, le_no bound key below) (least_find keys bound)
      | inr above ↦
          let reached : nat_lt key bound ≡ false = grind (arith, nat_tests) in
          rw (reached, le_yes bound key above) refl
    ]

pub placed : (keys searched : List ℕ) (bound here : ℕ) → IsKeyList keys → searched ≡ keys → here ≡ least_from searched bound → IsKeyList keys × IsPlace keys here
placed keys searched bound here keyed same lands = (keyed, rw (lands, same) (least_again keys bound keyed))
