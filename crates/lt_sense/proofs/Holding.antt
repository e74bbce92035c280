-- Rows that a test finds the same.
use Rattle.std.proofs.Common.{◌≡◌, true, [], ◌∷◌, refl, sym, ap, ◌∙◌}
use mathlib.Core.Bool.{true≢false}
use Rattle.std.specs.Prelude.{◌==◌}
use Rattle.std.proofs.lemmas.Bool.{and_parts, and_from, eqb-true, eq-eqb}
use Rattle.lt_face.specs.State.{Row, row_eq}

pub row_tied : (a b : Row) → row_eq a b ≡ true → a ≡ b
row_tied [] [] h = refl
row_tied [] (y ∷ ys) h = absurd (true≢false (sym h))
row_tied (x ∷ xs) [] h = absurd (true≢false (sym h))
row_tied (x ∷ xs) (y ∷ ys) h = let k = and_parts (x == y) (row_eq xs ys) h in ap (λ z. z ∷ xs) (eqb-true x y k.0) ∙ ap (λ zs. y ∷ zs) (row_tied xs ys k.1)

pub row_itself : (a : Row) → row_eq a a ≡ true
row_itself [] = refl
row_itself (x ∷ xs) = and_from (x == x) (row_eq xs xs) (eq-eqb x x refl) (row_itself xs)
