-- What holds of each element, over lists put together.
use Rattle.std.proofs.Common.{List, [], ◌∷◌, ◌++◌}
use Rattle.std.specs.Prelude.{flat_map}
use Rattle.std.specs.List.{AllByRecursion}

pub All_both : {X : Type 0} (P : X → Type 0) (xs ys : List X) → AllByRecursion P xs → AllByRecursion P ys → AllByRecursion P (xs ++ ys)
All_both P [] ys p q = q
All_both P (x ∷ xs) ys p q = (p.0, All_both P xs ys p.1 q)

pub All_flat : {X Y : Type 0} (P : Y → Type 0) (f : X → List Y) (xs : List X) → AllByRecursion (λ x. AllByRecursion P (f x)) xs → AllByRecursion P (flat_map f xs)
All_flat P f [] h = tt
All_flat P f (x ∷ xs) h = All_both P (f x) (flat_map f xs) h.0 (All_flat P f xs h.1)
