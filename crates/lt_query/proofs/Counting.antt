-- Lists without repeats are no longer than those that have all their elements.
use Rattle.std.specs.Prelude.{◌≡◌, ◌≤◌, List, [], ◌∷◌, ◌++◌, length}
use Rattle.std.proofs.Common.{refl, sym, ap, subst, inl, inr, arith, length-append}
use Rattle.lt_face.specs.Lists.{IsIn}
use Rattle.lt_face.proofs.Membership.{IsIn-append_left, IsIn-append_right, IsIn-append_cases}
use Rattle.lt_query.specs.Lists.{IsDistinct}

-- the elements around one of the list
split_at : {X : Type 0} (x : X) (ys : List X) → IsIn x ys → (before : List X) × (after : List X) × (ys ≡ before ++ x ∷ after)
split_at x [] h = absurd h
split_at x (y ∷ ys) h =
    elim h [ inl e ↦ ([], ys, ap (λ w. w ∷ ys) e) | inr r ↦ let f = split_at x ys r in (y ∷ f.0, f.1, ap (λ w. y ∷ w) f.2) ]

pub length_within : {X : Type 0} (xs ys : List X) → IsDistinct xs → ((x : X) → IsIn x xs → IsIn x ys) → length xs ≤ length ys
length_within [] ys d within = omega arith
length_within (x ∷ xs) ys d within =
    let f = split_at x ys (within x (inl refl)) in
    let rest : length xs ≤ length (f.0 ++ f.1) =
    length_within xs (f.0 ++ f.1) d.1 (λ y h. elim (IsIn-append_cases y f.0 (x ∷ f.1) (subst (λ w. IsIn y w) f.2 (within y (inr h)))) [
      | inl l ↦ IsIn-append_left y f.0 f.1 l
      | inr r ↦ elim r [ inl e ↦ absurd (d.0 (subst (λ w. IsIn w xs) (sym e) h)) | inr k ↦ IsIn-append_right y f.0 f.1 k ]
    ]) in
    let whole : length ys ≡ length (f.0 ++ x ∷ f.1) = ap length f.2 in
    let both = length-append f.0 (x ∷ f.1) in
    let less = length-append f.0 f.1 in
    omega arith
