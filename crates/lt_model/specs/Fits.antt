-- Programs and marks that fit a state.
use Rattle.std.specs.Prelude.{◌≡◌, ℕ, ◌<◌, ◌≤◌, ◌+◌, List, [], ◌∷◌, length, Some, slice_get, option_map, IsTrue}
use Rattle.std.specs.List.{AllByRecursion}
use Rattle.lt_face.specs.Limits.{most_columns, most_literals, most_statements, most_variables}
use Rattle.lt_face.specs.Rows.{IsCell}
use Rattle.lt_model.specs.declared.mark.Mark.{Mark}
use Rattle.lt_model.specs.declared.normal.Term.{Term}
use Rattle.lt_model.specs.declared.normal.Term.TheVariants.{Var, Cell}
use Rattle.lt_model.specs.declared.normal.Atom.{Atom}
use Rattle.lt_model.specs.declared.normal.Test.{Test}
use Rattle.lt_model.specs.declared.normal.Test.TheVariants.{Cmp, Sum}
use Rattle.lt_model.specs.declared.normal.Body.{Body}
use Rattle.lt_model.specs.declared.normal.Stmt.{Stmt}
use Rattle.lt_model.specs.declared.normal.Stmt.TheVariants.{Insert, Delete, Replace, Require, Print}
use Rattle.lt_face.specs.State.{State, Relation}
use Rattle.lt_model.specs.Marks.{Marks}
use Rattle.lt_model.specs.Bound.{are_bound}

-- the relation is there, and this wide
abbrev pub IsWide : State → ℕ → ℕ → Type 0
IsWide state relation width = option_map (λ (r : Relation). r.width) (slice_get state relation) ≡ Some width

-- a variable's number is below `vars`, and a constant is a cell
abbrev pub IsTermOf : ℕ → Term → Type 0
IsTermOf vars (Var v) = v < vars
IsTermOf vars (Cell c) = IsCell c

-- as many terms as the relation has columns
pub record IsAtomOf (state : State) (vars : ℕ) (atom : Atom) : Type 0 where
  pub is_wide : IsWide state atom.relation (length atom.terms)
  pub has_terms : AllByRecursion (IsTermOf vars) atom.terms

abbrev pub test_terms : Test → List Term
test_terms (Cmp left op right) = left ∷ right ∷ []
test_terms (Sum var a minus b) = Var var ∷ a ∷ b ∷ []

-- each variable of its tests and of its negated atoms is bound
pub record IsBodyOf (state : State) (body : Body) : Type 0 where
  pub atoms : AllByRecursion (IsAtomOf state body.vars) body.atoms
  pub absents : AllByRecursion (IsAtomOf state body.vars) body.absents
  pub tests : AllByRecursion (λ test. AllByRecursion (IsTermOf body.vars) (test_terms test)) body.tests
  pub is_bound : AllByRecursion (λ test. IsTrue (are_bound body (test_terms test))) body.tests
  pub are_absents_bound : AllByRecursion (λ (atom : Atom). IsTrue (are_bound body atom.terms)) body.absents
  pub has_few_variables : body.vars ≤ most_variables
  pub has_few_literals : length body.atoms + length body.absents + length body.tests ≤ most_literals

-- a head's variables are bound by the body
pub record IsHeadOf (state : State) (body : Body) (head : Atom) : Type 0 where
  pub fits : IsAtomOf state body.vars head
  pub is_bound : IsTrue (are_bound body head.terms)

-- as many kinds as printed terms
pub record ArePrintedOf (body : Body) (terms : List Term) (kinds : ℕ) : Type 0 where
  pub has_terms : AllByRecursion (IsTermOf body.vars) terms
  pub is_bound : IsTrue (are_bound body terms)
  pub is_wide : length terms ≡ kinds
  pub has_some : 1 ≤ kinds
  pub has_few : kinds ≤ most_columns

-- from 1 to the number of the head's columns
abbrev pub AreKeysOf : Atom → ℕ → Type 0
AreKeysOf head keys = (1 ≤ keys) × (keys ≤ length head.terms)

abbrev pub FitsStatement : State → Stmt → Type 0
FitsStatement state (Insert head keys body) = IsBodyOf state body × IsHeadOf state body head × AreKeysOf head keys
FitsStatement state (Delete head body) = IsBodyOf state body × IsHeadOf state body head
FitsStatement state (Replace gone come keys body) = IsBodyOf state body × IsHeadOf state body gone × IsHeadOf state body come × AreKeysOf come keys
FitsStatement state (Require some body) = IsBodyOf state body
FitsStatement state (Print terms kinds body) = IsBodyOf state body × ArePrintedOf body terms (length kinds)

-- a program fits a state
pub record Fits (state : State) (program : List Stmt) : Type 0 where
  pub each : AllByRecursion (FitsStatement state) program
  pub has_few : length program ≤ most_statements

-- a mark's relation is there, and its row is as wide
pub record IsMarkOf (state : State) (m : Mark) : Type 0 where
  pub is_wide : IsWide state m.relation (length m.row)
  pub has_cells : AllByRecursion IsCell m.row

-- marks fit a state
abbrev pub FitMarks : State → Marks → Type 0
FitMarks state marks = AllByRecursion (IsMarkOf state) marks
