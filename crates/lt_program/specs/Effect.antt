-- How an effect is seen.
use Rattle.std.specs.List.{AllByRecursion}
use Rattle.lt_face.specs.Rows.{IsCell}
use Rattle.lt_model.specs.declared.mark.Mark.{Mark}
use Rattle.lt_model.specs.Marks.{Marks}
use Rattle.lt_model.specs.Effect as model
use Rattle.lt_program.specs.declared.effect.Effect.{Effect}
use Rattle.lt_program.specs.declared.effect.Effect.TheVariants.{Writes, Requires, Prints, Clashes}

-- the model's effect
abbrev pub view : Effect → model.Effect
view (Writes marks) = model.Writes marks
view (Requires holds) = model.Requires holds
view (Prints kinds rows) = model.Prints kinds rows
view Clashes = model.Clashes

-- the rows of marks are of cells
abbrev pub HaveCells : Marks → Type 0
HaveCells marks = AllByRecursion (λ (m : Mark). AllByRecursion IsCell m.row) marks
