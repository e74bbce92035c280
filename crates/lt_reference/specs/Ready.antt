-- Statements whose effect is computed.
use Rattle.std.specs.Prelude.{◌≤◌, List, length, IsTrue}
use Rattle.std.specs.List.{AllByRecursion}
use Rattle.lt_face.specs.Limits.{most_columns, most_variables}
use Rattle.lt_face.specs.Rows.{IsCell}
use Rattle.lt_face.specs.State.{Row}
use Rattle.lt_model.specs.declared.normal.Term.{Term}
use Rattle.lt_model.specs.declared.normal.Body.{Body}
use Rattle.lt_model.specs.declared.normal.Stmt.{Stmt}
use Rattle.lt_model.specs.declared.normal.Stmt.TheVariants.{Insert, Delete, Replace, Require, Print}
use Rattle.lt_model.specs.Bound.{are_bound}
use Rattle.lt_model.specs.Fits.{IsTermOf, AreKeysOf}
use Rattle.lt_program.specs.declared.effect.Effect.{Effect}
use Rattle.lt_program.specs.declared.effect.Effect.TheVariants.{Writes, Requires, Prints, Clashes}
use Rattle.lt_program.specs.Effect.{HaveCells}
use Rattle.lt_join.specs.Values.{IsTest}
use Rattle.lt_reference.specs.Walk.{IsAtom, IsAbsent}

pub record IsBody (body : Body) : Type 0 where
  pub atoms : AllByRecursion IsAtom body.atoms
  pub absents : AllByRecursion IsAbsent body.absents
  pub tests : AllByRecursion IsTest body.tests

-- terms whose cells make a row
pub record AreTerms (body : Body) (terms : List Term) : Type 0 where
  pub narrow : length terms ≤ most_columns
  pub cells : AllByRecursion (IsTermOf most_variables) terms
  pub bound : IsTrue (are_bound body terms)

-- what is needed of a statement
abbrev pub IsReady : Stmt → Type 0
IsReady (Insert head keys body) = IsBody body × AreTerms body head.terms × AreKeysOf head keys
IsReady (Delete head body) = IsBody body × AreTerms body head.terms
IsReady (Replace gone come keys body) = IsBody body × AreTerms body gone.terms × AreTerms body come.terms × AreKeysOf come keys
IsReady (Require some body) = IsBody body
IsReady (Print terms kinds body) = IsBody body × AreTerms body terms

-- rows of cells
abbrev pub AreRows : List Row → Type 0
AreRows rows = AllByRecursion (AllByRecursion IsCell) rows

-- the rows that it writes are of cells
abbrev pub WritesCells : Effect → Type 0
WritesCells (Writes marks) = HaveCells marks
WritesCells (Requires holds) = Unit {0}
WritesCells (Prints kinds rows) = Unit {0}
WritesCells Clashes = Unit {0}
