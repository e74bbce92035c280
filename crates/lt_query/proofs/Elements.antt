-- Facts of each element of a list.
use Rattle.std.specs.Prelude.{List, [], ◌∷◌}
use Rattle.std.specs.List.{AllByRecursion}
use Rattle.std.proofs.Common.{refl, subst, inl, inr}
use Rattle.lt_face.specs.Lists.{IsIn}

pub All_from : {X : Type 0} (P : X → Type 0) (xs : List X) → ((x : X) → IsIn x xs → P x) → AllByRecursion P xs
All_from P [] h = tt
All_from P (x ∷ xs) h = (h x (inl refl), All_from P xs (λ y k. h y (inr k)))

pub All_at : {X : Type 0} (P : X → Type 0) (x : X) (xs : List X) → AllByRecursion P xs → IsIn x xs → P x
All_at P x [] h k = absurd k
All_at P x (y ∷ xs) h k = elim k [ inl e ↦ subst P e h.0 | inr r ↦ All_at P x xs h.1 r ]
