-- Levels that are made one after another.
use Rattle.std.proofs.Common.{◌≡◌, ℕ, List, [], ◌∷◌, ◌++◌, length, refl, sym, ap, ◌∙◌, append_assoc, arith}
use Rattle.lt_shared.specs.Entries.{joined, level_rows}
use Rattle.lt_shared.specs.Shared.{row_rows}
use Rattle.lt_shared.proofs.Joins.{joined-append}

append_nil : {X : Type 0} (xs : List X) → xs ++ [] ≡ xs
append_nil [] = refl
append_nil (x ∷ xs) = ap (λ t. x ∷ t) (append_nil xs)

pub joined-one : {X : Type 0} (f : X → List (List ℕ)) (xs : List X) (x : X) → joined f (xs ++ x ∷ []) ≡ joined f xs ++ f x
joined-one f xs x = joined-append f xs (x ∷ []) ∙ ap (λ t. joined f xs ++ t) (append_nil (f x))

-- the list is closed
pub level_rows-close : {X : Type 0} (f : X → List (List ℕ)) (levels : List (List X)) (group : List X) → joined (λ level. joined f level) (levels ++ group ∷ []) ≡ level_rows f levels group
level_rows-close f levels group = joined-one (λ level. joined f level) levels group

-- and one entry more begins the next, or is put behind
pub level_rows-next : {X : Type 0} (f : X → List (List ℕ)) (levels new : List (List X)) (group next : List X) (x : X) → new ≡ levels ++ group ∷ [] → next ≡ x ∷ []
    → level_rows f new next ≡ level_rows f levels group ++ f x
level_rows-next f levels new group next x is one =
    ap (λ t. joined (λ level. joined f level) t ++ joined f next) is ∙ ap (λ t. joined (λ level. joined f level) (levels ++ group ∷ []) ++ joined f t) one
    ∙ ap (λ t. t ++ (f x ++ [])) (level_rows-close f levels group) ∙ ap (λ t. level_rows f levels group ++ t) (append_nil (f x))

pub level_rows-behind : {X : Type 0} (f : X → List (List ℕ)) (levels : List (List X)) (group next : List X) (x : X) → next ≡ group ++ x ∷ []
    → level_rows f levels next ≡ level_rows f levels group ++ f x
level_rows-behind f levels group next x is =
    ap (λ t. joined (λ level. joined f level) levels ++ joined f t) is ∙ ap (λ t. joined (λ level. joined f level) levels ++ t) (joined-one f group x)
    ∙ sym (append_assoc (joined (λ level. joined f level) levels) (joined f group) (f x))

pub level_rows-none : {X : Type 0} (f : X → List (List ℕ)) (levels : List (List X)) → joined (λ level. joined f level) levels ≡ level_rows f levels []
level_rows-none f levels = sym (append_nil (joined (λ level. joined f level) levels))

-- rows as pages of one row each are themselves
pub joined-rows : (rows : List (List ℕ)) → joined row_rows rows ≡ rows
joined-rows [] = refl
joined-rows (r ∷ rows) = ap (λ t. r ∷ t) (joined-rows rows)

pub level_rows-empty : {X : Type 0} (f : X → List (List ℕ)) (levels : List (List X)) (group : List X) → length group ≡ 0 → joined (λ level. joined f level) levels ≡ level_rows f levels group
level_rows-empty f levels [] none = level_rows-none f levels
level_rows-empty f levels (x ∷ group) none = absurd (omega arith)
