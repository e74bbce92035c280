-- What the limits leave of a statement that was read: how many things it has, and that its constants are cells.
use Rattle.std.specs.Prelude.{◌≤◌, List, length}
use Rattle.std.specs.List.{AllByRecursion}
use Rattle.lt_face.specs.Limits.{most_columns, most_literals, most_variables}
use Rattle.lt_face.specs.Rows.{IsCell}
use Rattle.lt_model.specs.declared.syntax.Term.{Term}
use Rattle.lt_model.specs.declared.syntax.Term.TheVariants.{Name, Cell}
use Rattle.lt_model.specs.declared.syntax.Head.{Head}
use Rattle.lt_model.specs.declared.syntax.Literal.{Literal}
use Rattle.lt_model.specs.declared.syntax.Literal.TheVariants.{Atom, Absent, Cmp, Sum}
use Rattle.lt_model.specs.declared.syntax.Statement.{Statement}
use Rattle.lt_model.specs.declared.syntax.Statement.TheVariants.{Print}
use Rattle.lt_model.specs.Variables.{body_of, heads_of, variables}

abbrev pub HasCell : Term → Type 0
HasCell (Name name) = Unit {0}
HasCell (Cell kind cell) = IsCell cell

-- 1 to 8 terms
pub record AreTermsWithin (terms : List Term) : Type 0 where
  pub some : 1 ≤ length terms
  pub few : length terms ≤ most_columns
  pub cells : AllByRecursion HasCell terms

abbrev pub IsLiteralWithin : Literal → Type 0
IsLiteralWithin (Atom head) = AreTermsWithin head.terms
IsLiteralWithin (Absent head) = AreTermsWithin head.terms
IsLiteralWithin (Cmp left op right) = HasCell left × HasCell right
IsLiteralWithin (Sum var a minus b) = HasCell a × HasCell b

abbrev pub ArePrintedWithin : Statement → Type 0
ArePrintedWithin (Print terms body) = AreTermsWithin terms
ArePrintedWithin s = Unit {0}

-- at most 16 literals, and 16 variables
pub record IsStatementWithin (s : Statement) : Type 0 where
  pub heads : AllByRecursion (λ (head : Head). AreTermsWithin head.terms) (heads_of s)
  pub printed : ArePrintedWithin s
  pub literals : AllByRecursion IsLiteralWithin (body_of s)
  pub few_literals : length (body_of s) ≤ most_literals
  pub few_variables : length (variables s) ≤ most_variables
