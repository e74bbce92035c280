-- How many claims stand, after one more and after one less.
use Rattle.std.proofs.Common.{◌≡◌, ◌≢◌, ℕ, zero, suc, ◌+◌, ◌<◌, ◌≤◌, List, [], ◌∷◌, ◌++◌, Option, Some, None, length, get_or, set, inl, inr, get_or-set_other, refl, sym, ap, ◌∙◌, arith}
use Rattle.std.proofs.lemmas.Bool.Decides.{eqb_tells}
use Rattle.lt_circuit.specs.Board.{one_if, standing, table}

module _ {X : Type 0} where
  pub one_less : (xs : List (Option X)) (k : ℕ) (x : X) → get_or xs k None ≡ Some x → standing (set xs k None) + 1 ≡ standing xs
  one_less [] k x e = cc
  one_less (None ∷ ys) zero x e = cc
  one_less (Some y ∷ ys) zero x e = refl
  one_less (None ∷ ys) (suc k) x e = one_less ys k x e
  one_less (Some y ∷ ys) (suc k) x e = ap (λ n. n + 1) (one_less ys k x e)

  -- the count after a claim is put where one may stand, and after it goes
  pub put_there : (xs : List (Option X)) (k : ℕ) (x : X) → k < length xs → standing (set xs k (Some x)) + one_if (get_or xs k None) ≡ standing xs + 1
  put_there [] k x h = absurd (omega arith)
  put_there (None ∷ ys) zero x h = omega arith
  put_there (Some y ∷ ys) zero x h = omega arith
  put_there (None ∷ ys) (suc k) x h = put_there ys k x (omega arith)
  put_there (Some y ∷ ys) (suc k) x h = let e = put_there ys k x (omega arith) in omega arith

  pub gone_there : (xs : List (Option X)) (k : ℕ) → standing (set xs k None) + one_if (get_or xs k None) ≡ standing xs
  gone_there [] k = refl
  gone_there (None ∷ ys) zero = omega arith
  gone_there (Some y ∷ ys) zero = refl
  gone_there (None ∷ ys) (suc k) = gone_there ys k
  gone_there (Some y ∷ ys) (suc k) = let e = gone_there ys k in omega arith

  pub at_most_all : (xs : List (Option X)) → standing xs ≤ length xs
  at_most_all [] = omega arith
  at_most_all (None ∷ ys) = omega (arith, at_most_all ys)
  at_most_all (Some y ∷ ys) = omega (arith, at_most_all ys)

  pub at_most_one_more : (xs : List (Option X)) (k : ℕ) (x : X) → standing (set xs k (Some x)) ≤ standing xs + 1
  at_most_one_more [] k x = omega arith
  at_most_one_more (None ∷ ys) zero x = omega arith
  at_most_one_more (Some y ∷ ys) zero x = omega arith
  at_most_one_more (None ∷ ys) (suc k) x = at_most_one_more ys k x
  at_most_one_more (Some y ∷ ys) (suc k) x = let h = at_most_one_more ys k x in omega arith

  pub none_more : (xs : List (Option X)) → standing (xs ++ None ∷ []) ≡ standing xs
  none_more [] = refl
  none_more (None ∷ ys) = none_more ys
  none_more (Some y ∷ ys) = ap (λ n. n + 1) (none_more ys)

  pub none_at : (xs : List (Option X)) (k : ℕ) → standing xs ≡ 0 → get_or xs k None ≡ None
  none_at [] k e = refl
  none_at (None ∷ ys) zero e = refl
  none_at (None ∷ ys) (suc k) e = none_at ys k e
  none_at (Some y ∷ ys) k e = absurd (omega arith)

  -- where some claim stands, at one of the places
  pub some_at : (xs : List (Option X)) → 0 < standing xs → (k : ℕ) × (x : X) × (get_or xs k None ≡ Some x)
  some_at [] h = absurd (omega arith)
  some_at (Some y ∷ ys) h = (0, y, refl)
  some_at (None ∷ ys) h = let r = some_at ys h in (suc r.0, r.1, r.2)

  -- no claim stands where one was taken away
  pub gone : (xs : List (Option X)) (k : ℕ) → get_or (set xs k None) k None ≡ None
  gone [] k = refl
  gone (x ∷ xs) zero = refl
  gone (x ∷ xs) (suc k) = gone xs k

  pub one_stands : (xs : List (Option X)) (k : ℕ) (x : X) → get_or xs k None ≡ Some x → 0 < standing xs
  one_stands xs k x e = let h = one_less xs k x e in omega (arith, h)

  pub two_stand : (xs : List (Option X)) (k l : ℕ) (x y : X) → l ≢ k → get_or xs k None ≡ Some x → get_or xs l None ≡ Some y → 1 < standing xs
  two_stand xs k l x y ne e f =
      let first = one_less xs k x e in
      let second = one_less (set xs k None) l y (get_or-set_other xs k l None None ne ∙ f) in
      omega (arith, first, second)

  -- where all that stand are at one place there is one at most
  pub one_at_most : (xs : List (Option X)) → ((k l : ℕ) (x y : X) → get_or xs k None ≡ Some x → get_or xs l None ≡ Some y → k ≡ l) → standing xs ≤ 1
  one_at_most xs h = by_count (standing xs) refl
    where
      by_rest : (k : ℕ) (x : X) → get_or xs k None ≡ Some x → (n : ℕ) → standing (set xs k None) ≡ n → standing xs ≤ 1
      by_rest k x e zero f = let one = one_less xs k x e in omega (arith, one, f)
      by_rest k x e (suc n) f =
          let r = some_at (set xs k None) (omega (arith, f)) in
          elim (eqb_tells r.0 k) [
            | inl g ↦ absurd (let a : None ≡ Some r.1 = sym (ap (λ i. get_or (set xs k None) i None) g.1 ∙ gone xs k) ∙ r.2 in cc)
            | inr g ↦ absurd (g.1 (h r.0 k r.1 x (sym (get_or-set_other xs k r.0 None None g.1) ∙ r.2) e))
          ]

      by_count : (n : ℕ) → standing xs ≡ n → standing xs ≤ 1
      by_count zero f = omega (arith, f)
      by_count (suc n) f = let r = some_at xs (omega (arith, f)) in by_rest r.0 r.1 r.2 (standing (set xs r.0 None)) refl

pub none_stand : (X : Type 0) (n : ℕ) → standing (table {X = Option X} (λ k. None) n) ≡ 0
none_stand X zero = refl
none_stand X (suc n) = none_more (table {X = Option X} (λ k. None) n) ∙ none_stand X n
