-- The bytes of a word.
use Rattle.std.proofs.Common.{◌≡◌, ℕ, suc, ◌+◌, Bool, true, false, IsTrue, List, [], ◌∷◌, take, refl, subst, arith}
use Rattle.std.specs.List.{prefix_len, list_all}
use Rattle.lt_model.specs.Tokens.{in_word}

run_more : (p : ℕ → Bool) (x : ℕ) (xs : List ℕ) (b : Bool) → p x ≡ b → list_all p (take (prefix_len p xs) xs) ≡ true → list_all p (take (prefix_len p (x ∷ xs)) (x ∷ xs)) ≡ true
run_more p x xs true e h =
    let n : ℕ = prefix_len p xs in
    let more : list_all p (x ∷ take n xs) ≡ true = rw e h in
    let longer : suc n ≡ 1 + n = omega arith in
    rw e (subst (λ (k : ℕ). list_all p (take k (x ∷ xs)) ≡ true) longer more)
run_more p x xs false e h = rw e refl

-- a run at the front has no other bytes
pub all_of_run : (p : ℕ → Bool) (xs : List ℕ) → list_all p (take (prefix_len p xs) xs) ≡ true
all_of_run p [] = refl
all_of_run p (x ∷ xs) = run_more p x xs (p x) refl (all_of_run p xs)

pub run_is_plain : (text xs : List ℕ) → text ≡ take (prefix_len in_word xs) xs → IsTrue (list_all in_word text)
run_is_plain text xs is = rw is (all_of_run in_word xs)
