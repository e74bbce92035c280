-- The texts of a row's cells, one by one.
use Rattle.std.proofs.Common.{◌≡◌, ℕ, zero, suc, ◌<◌, List, [], ◌∷◌, length, get_or, refl, ap, arith}
use Rattle.lt_model.specs.declared.kind.Kind.{Kind}
use Rattle.lt_model.specs.Cells.{cell_text}
use Rattle.lt_model.specs.Report.{cell_texts}

pub length-cell_texts : (kinds : List Kind) (cells : List ℕ) → length cells ≡ length kinds → length (cell_texts kinds cells) ≡ length cells
length-cell_texts [] [] e = refl
length-cell_texts [] (c ∷ cells) e = absurd (omega (arith, e))
length-cell_texts (k ∷ kinds) [] e = absurd (omega (arith, e))
length-cell_texts (k ∷ kinds) (c ∷ cells) e = let shorter : length cells ≡ length kinds = omega (arith, e) in ap (λ n. suc n) (length-cell_texts kinds cells shorter)

pub get_or-cell_texts : (kinds : List Kind) (cells : List ℕ) (i : ℕ) (k : Kind) (c : ℕ) → length cells ≡ length kinds → i < length cells → get_or (cell_texts kinds cells) i [] ≡ cell_text (get_or kinds i k) (get_or cells i c)
get_or-cell_texts [] [] i k c e h = absurd (omega (arith, h))
get_or-cell_texts [] (d ∷ cells) i k c e h = absurd (omega (arith, e))
get_or-cell_texts (l ∷ kinds) [] i k c e h = absurd (omega (arith, e))
get_or-cell_texts (l ∷ kinds) (d ∷ cells) zero k c e h = refl
get_or-cell_texts (l ∷ kinds) (d ∷ cells) (suc i) k c e h =
    let shorter : length cells ≡ length kinds = omega (arith, e) in
    let within : i < length cells = omega (arith, h) in
    get_or-cell_texts kinds cells i k c shorter within
