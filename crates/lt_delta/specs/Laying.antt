-- Marks laid on the rows of one relation.
use Rattle.std.specs.Prelude.{ℕ, Bool, true, false, not, ◌&&◌, List, [], ◌∷◌, fold, if◌then◌else◌, ◌==◌}
use Rattle.lt_face.specs.State.{Row}
use Rattle.lt_model.specs.declared.mark.Mark.{Mark}
use Rattle.lt_model.specs.Marks.{Marks, write}

-- the rows with a mark of their relation laid on them
abbrev pub row_laid : ℕ → List Row → Mark → List Row
row_laid relation rows m = if m.relation == relation then write m rows else rows

-- the rows of a relation with the relation's marks laid on them
abbrev pub rows_laid : ℕ → List Row → Marks → List Row
rows_laid relation rows marks = fold (row_laid relation) rows marks

abbrev pub same_sign : Bool → Bool → Bool
same_sign true b = b
same_sign false b = not b

-- the rows of a relation that the marks put in, or those that they take out
abbrev pub marked : ℕ → Bool → Marks → List Row
marked relation plus [] = []
marked relation plus (m ∷ marks) = if m.relation == relation && same_sign m.plus plus then m.row ∷ marked relation plus marks else marked relation plus marks
