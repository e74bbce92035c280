-- Texts, apart from where they lie in memory.
use Rattle.std.specs.Prelude.{ℕ, zero, suc, List, [], ◌∷◌, ◌++◌, map, codes, decimal, Option, Some, None}
use Rattle.std.specs.Borrow.{Bor}
use Rattle.lt_face.specs.State.{Row}
use Rattle.lt_model.specs.Report.{line, at_words}

abbrev pub texts : List (Bor (List ℕ)) → List (List ℕ)
texts words = map (λ (w : Bor (List ℕ)). w.now) words

-- a line's word at this place: a space stands before each but the first
abbrev pub spaced : ℕ → List ℕ → List ℕ
spaced zero word = word
spaced (suc n) word = 32 ∷ word

-- words of a line, from this place on
abbrev pub joined : ℕ → List (List ℕ) → List ℕ
joined n [] = []
joined n (word ∷ words) = spaced n word ++ joined (suc n) words

-- the line with which the rows of a relation begin
abbrev pub show_line : List ℕ → Option ℕ → ℕ → List ℕ
show_line name version count = line ((codes "show" ∷ name ∷ []) ++ at_words version ++ decimal count ∷ [])

-- the rows of a set, and none where there is no set
abbrev pub held : {X : Type 0} → (X → List Row) → Option (Bor X) → List Row
held rows_of None = []
held rows_of (Some set) = rows_of set.now
