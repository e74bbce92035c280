-- What statements are as they are kept.
use Rattle.std.specs.Arc.{arc_value}
use Rattle.lt_model.specs.declared.syntax.Statement.{Statement}
use Rattle.lt_model.specs.declared.form.Kept.{Kept}
use Rattle.lt_model.specs.declared.form.Kept.TheVariants.{Whole, Filled}
use Rattle.lt_model.specs.Forms.{filled}

abbrev pub statement_of : Kept → Statement
statement_of (Whole s) = s
statement_of (Filled form cells) = filled (arc_value form).1 cells.items
