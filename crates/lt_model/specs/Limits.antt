-- What the limits leave of an item that was read: how many things it has, and that its constants are cells.
use Rattle.std.specs.Prelude.{ℕ, ◌≤◌, ◌<◌, ◌^◌, length, Option, Some, None}
use Rattle.std.specs.List.{AllByRecursion}
use Rattle.lt_face.specs.Limits.{most_columns, most_programs, most_statements}
use Rattle.lt_model.specs.declared.syntax.Program.{Program}
use Rattle.lt_model.specs.declared.syntax.Item.{Item}
use Rattle.lt_model.specs.declared.syntax.Item.TheVariants.{Relation, Batch, Show}
pub use Rattle.lt_model.specs.Within.{HasCell, AreTermsWithin, IsLiteralWithin, ArePrintedWithin, IsStatementWithin}

-- at most 64 statements
pub record IsProgramWithin (p : Program) : Type 0 where
  pub statements : AllByRecursion IsStatementWithin p.statements
  pub few : length p.statements ≤ most_statements

abbrev pub IsVersionWithin : Option ℕ → Type 0
IsVersionWithin None = Unit {0}
IsVersionWithin (Some version) = version < 2 ^ 63

-- 1 to 8 columns, and 1 or more of them key columns; at most 256 programs; a version that is an int
abbrev pub IsWithinLimits : Item → Type 0
IsWithinLimits (Relation name kinds keys) = (1 ≤ length kinds) × (length kinds ≤ most_columns) × (1 ≤ keys) × (keys ≤ length kinds)
IsWithinLimits (Batch programs) = AllByRecursion IsProgramWithin programs × (length programs ≤ most_programs)
IsWithinLimits (Show name version) = IsVersionWithin version
