-- Texts of elements, one after another.
use Rattle.std.proofs.Common.{◌≡◌, ◌∙◌, ℕ, zero, suc, ◌+◌, ◌<◌, List, [], ◌∷◌, ◌++◌, length, take, drop, get_or, sym, ap, append_assoc, append-nil, arith}
use Rattle.std.specs.Prelude.{flat_map}

-- those before a place, the text there, and those after it
module _ {X : Type 0} (f : X → List ℕ) where
  pub text-at : (xs : List X) (i : ℕ) (x : X) → i < length xs → get_or xs i x ≡ x → flat_map f xs ≡ (flat_map f (take i xs) ++ f x) ++ flat_map f (drop (i + 1) xs)
  text-at [] i x h is = absurd (omega (arith, h))
  text-at (y ∷ xs) zero x h is = ap (λ (z : X). f z ++ flat_map f xs) is
  text-at (y ∷ xs) (suc i) x h is =
      let further : i < length xs = omega (arith, h) in
      let after : suc i + 1 ≡ suc (i + 1) = omega arith in
      rw after (ap (λ (s : List ℕ). f y ++ s) (text-at xs i x further is)
      ∙ sym (append_assoc (f y) (flat_map f (take i xs) ++ f x) (flat_map f (drop (i + 1) xs)))
      ∙ ap (λ (s : List ℕ). s ++ flat_map f (drop (i + 1) xs)) (sym (append_assoc (f y) (flat_map f (take i xs)) (f x))))

  pub text-more : (xs : List X) (i : ℕ) (x : X) → i < length xs → get_or xs i x ≡ x → flat_map f (take (i + 1) xs) ≡ flat_map f (take i xs) ++ f x
  text-more [] i x h is = absurd (omega (arith, h))
  text-more (y ∷ xs) zero x h is = append-nil (f y) ∙ ap f is
  text-more (y ∷ xs) (suc i) x h is =
      let further : i < length xs = omega (arith, h) in
      let after : suc i + 1 ≡ suc (i + 1) = omega arith in
      rw after (ap (λ (s : List ℕ). f y ++ s) (text-more xs i x further is) ∙ sym (append_assoc (f y) (flat_map f (take i xs)) (f x)))
