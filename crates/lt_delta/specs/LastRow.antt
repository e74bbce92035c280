-- The row that a list of marks ends on.
use Rattle.std.specs.Prelude.{Bool, false, [], ◌∷◌}
use Rattle.std.specs.Ordering.{is_eq}
use Rattle.lt_model.specs.declared.mark.Mark.{Mark}
use Rattle.lt_model.specs.Marks.{Marks, mark_cmp}

-- the last mark is on the row of m
abbrev pub ends_tied : Marks → Mark → Bool
ends_tied [] m = false
ends_tied (n ∷ []) m = is_eq (mark_cmp n m)
ends_tied (n ∷ (o ∷ marks)) m = ends_tied (o ∷ marks) m
