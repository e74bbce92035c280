-- Lists of owners, by what they own.
use Rattle.std.proofs.Common.{◌≡◌, ℕ, ◌<◌, List, [], ◌∷◌, ◌++◌, map, length, get_or, sym, ap, ◌∙◌, subst}
use Rattle.std.proofs.lemmas.List.{get_or-map, map-append, length-map}

module _ {X Y : Type 0} (f : X → Y) where
  -- one owner more at the end
  pub pushed : (out new : List X) (x : X) (y : Y) → new ≡ out ++ x ∷ [] → f x ≡ y → map f new ≡ map f out ++ y ∷ []
  pushed out new x y is value = ap (map f) is ∙ map-append f out (x ∷ []) ∙ ap (λ (z : Y). map f out ++ z ∷ []) value

  -- what the owner at a place owns
  pub owned_at : (xs : List X) (i : ℕ) (x : X) (d : Y) → i < length xs → x ≡ get_or xs i x → f x ≡ get_or (map f xs) i d
  owned_at xs i x d within is = ap f is ∙ sym (get_or-map f xs i x d within)

  pub owned_within : (xs : List X) (i : ℕ) → i < length xs → i < length (map f xs)
  owned_within xs i within = subst (λ (n : ℕ). i < n) (sym (length-map xs f)) within

  -- where two lists own the same, so do the owners at one place
  pub own_same : (p q : List X) (i : ℕ) (x y : X) → i < length p → i < length q → x ≡ get_or p i x → y ≡ get_or q i y → map f p ≡ map f q → f x ≡ f y
  own_same p q i x y in_p in_q is_x is_y same =
      owned_at p i x (f x) in_p is_x
      ∙ ap (λ (zs : List Y). get_or zs i (f x)) same
      ∙ sym (owned_at q i y (f x) in_q is_y)
