-- Whether two lists of marks are equal.
use Rattle.std.specs.Prelude.{Bool, List, nat_eq, ◌==◌, ◌&&◌}
use lib.Pointwise.{pointwise}
use Rattle.std.specs.Bool.{beq}
use Rattle.lt_model.specs.declared.mark.Mark.{Mark}

-- the same relation, row and sign
abbrev pub same_mark : Mark → Mark → Bool
same_mark a b = (a.relation == b.relation) && pointwise nat_eq a.row b.row && beq a.plus b.plus

-- equal marks
unfoldable pub same_marks : List Mark → List Mark → Bool
same_marks a b = pointwise same_mark a b
