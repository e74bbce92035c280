-- Statements with other constants, as they are written and in normal form. In lemmas the change is any function on cells, so
-- nothing hangs on how a form numbers its constants.
use Rattle.std.specs.Prelude.{◌≡◌, ℕ, ◌+◌, ◌-◌, List, [], ◌∷◌, length, map, filter_map, Option, Some, None, slice_index_or}
use Rattle.lt_model.specs.declared.syntax.Term.{Term}
use Rattle.lt_model.specs.declared.syntax.Term.TheVariants.{Name, Cell}
use Rattle.lt_model.specs.declared.syntax.Head.{Head}
use Rattle.lt_model.specs.declared.syntax.Literal.{Literal}
use Rattle.lt_model.specs.declared.syntax.Literal.TheVariants.{Atom, Absent, Cmp, Sum}
use Rattle.lt_model.specs.declared.syntax.Statement.{Statement}
use Rattle.lt_model.specs.declared.syntax.Statement.TheVariants.{Insert, Delete, Replace, Require, Print}
use Rattle.lt_model.specs.declared.normal.Term as normal_term
use Rattle.lt_model.specs.declared.normal.Term.TheVariants as normal_terms
use Rattle.lt_model.specs.declared.normal.Atom as normal_atom
use Rattle.lt_model.specs.declared.normal.Test.{Test}
use Rattle.lt_model.specs.declared.normal.Test.TheVariants as tests
use Rattle.lt_model.specs.declared.normal.Body.{Body}
use Rattle.lt_model.specs.declared.normal.Stmt.{Stmt}
use Rattle.lt_model.specs.declared.normal.Stmt.TheVariants as stmts
use Rattle.lt_model.specs.Tokens.{Token, finished, tokens}
use Rattle.lt_model.specs.Sentences.{formed, SpellsForm}
use Rattle.lt_model.specs.Variables.{literal_terms, terms_of}
use Rattle.lt_model.specs.Within.{IsStatementWithin}

-- the k-th of the constants, from 1; a number that is none of theirs stays
abbrev pub put : List ℕ → ℕ → ℕ
put cells k = slice_index_or cells (k - 1) k

abbrev pub on_term : (ℕ → ℕ) → Term → Term
on_term f (Name name) = Name name
on_term f (Cell kind cell) = Cell kind (f cell)

abbrev pub on_head : (ℕ → ℕ) → Head → Head
on_head f head = record { relation = head.relation; terms = map (on_term f) head.terms }

abbrev pub on_literal : (ℕ → ℕ) → Literal → Literal
on_literal f (Atom head) = Atom (on_head f head)
on_literal f (Absent head) = Absent (on_head f head)
on_literal f (Cmp left op right) = Cmp (on_term f left) op (on_term f right)
on_literal f (Sum var a minus b) = Sum var (on_term f a) minus (on_term f b)

abbrev pub on_statement : (ℕ → ℕ) → Statement → Statement
on_statement f (Insert head body) = Insert (on_head f head) (map (on_literal f) body)
on_statement f (Delete head body) = Delete (on_head f head) (map (on_literal f) body)
on_statement f (Replace gone come body) = Replace (on_head f gone) (on_head f come) (map (on_literal f) body)
on_statement f (Require some body) = Require some (map (on_literal f) body)
on_statement f (Print terms body) = Print (map (on_term f) terms) (map (on_literal f) body)

-- the statement of a form with these constants
abbrev pub filled : Statement → List ℕ → Statement
filled s cells = on_statement (put cells) s

-- ---- in normal form

abbrev pub on_normal : (ℕ → ℕ) → normal_term.Term → normal_term.Term
on_normal f (normal_terms.Var v) = normal_terms.Var v
on_normal f (normal_terms.Cell cell) = normal_terms.Cell (f cell)

abbrev pub on_atom : (ℕ → ℕ) → normal_atom.Atom → normal_atom.Atom
on_atom f atom = record { relation = atom.relation; terms = map (on_normal f) atom.terms }

abbrev pub on_test : (ℕ → ℕ) → Test → Test
on_test f (tests.Cmp left op right) = tests.Cmp (on_normal f left) op (on_normal f right)
on_test f (tests.Sum var a minus b) = tests.Sum var (on_normal f a) minus (on_normal f b)

abbrev pub on_body : (ℕ → ℕ) → Body → Body
on_body f body = record { atoms = map (on_atom f) body.atoms; absents = map (on_atom f) body.absents; tests = map (on_test f) body.tests; vars = body.vars }

abbrev pub on_stmt : (ℕ → ℕ) → Stmt → Stmt
on_stmt f (stmts.Insert head keys body) = stmts.Insert (on_atom f head) keys (on_body f body)
on_stmt f (stmts.Delete head body) = stmts.Delete (on_atom f head) (on_body f body)
on_stmt f (stmts.Replace gone come keys body) = stmts.Replace (on_atom f gone) (on_atom f come) keys (on_body f body)
on_stmt f (stmts.Require some body) = stmts.Require some (on_body f body)
on_stmt f (stmts.Print terms kinds body) = stmts.Print (map (on_normal f) terms) kinds (on_body f body)

-- the checked statement of a form with these constants
abbrev pub filled_stmt : Stmt → List ℕ → Stmt
filled_stmt stmt cells = on_stmt (put cells) stmt

-- ---- forms

-- a constant's cell
abbrev pub cell_in : Term → Option ℕ
cell_in (Name name) = None
cell_in (Cell kind cell) = Some cell

-- the cells of constants, in text order
abbrev pub cells_in : List Term → List ℕ
cells_in terms = filter_map cell_in terms

abbrev pub cells_of : Statement → List ℕ
cells_of s = cells_in (terms_of s)

-- with its number for a constant, where n stand before it
abbrev pub numbered_term : ℕ → Term → Term
numbered_term n (Name name) = Name name
numbered_term n (Cell kind cell) = Cell kind (n + 1)

-- how many constants stand before what follows these terms
abbrev pub past_terms : ℕ → List Term → ℕ
past_terms n terms = n + length (cells_in terms)

abbrev pub numbered_terms : ℕ → List Term → List Term
numbered_terms n [] = []
numbered_terms n (t ∷ ts) = numbered_term n t ∷ numbered_terms (past_terms n (t ∷ [])) ts

abbrev pub numbered_head : ℕ → Head → Head
numbered_head n head = record { relation = head.relation; terms = numbered_terms n head.terms }

abbrev pub numbered_literal : ℕ → Literal → Literal
numbered_literal n (Atom head) = Atom (numbered_head n head)
numbered_literal n (Absent head) = Absent (numbered_head n head)
numbered_literal n (Cmp left op right) = Cmp (numbered_term n left) op (numbered_term (past_terms n (left ∷ [])) right)
numbered_literal n (Sum var a minus b) = Sum var (numbered_term n a) minus (numbered_term (past_terms n (a ∷ [])) b)

abbrev pub numbered_body : ℕ → List Literal → List Literal
numbered_body n [] = []
numbered_body n (l ∷ ls) = numbered_literal n l ∷ numbered_body (past_terms n (literal_terms l)) ls

-- the form of a statement: the number k, from 1, for its k-th constant
abbrev pub numbered : Statement → Statement
numbered (Insert head body) = Insert (numbered_head 0 head) (numbered_body (past_terms 0 head.terms) body)
numbered (Delete head body) = Delete (numbered_head 0 head) (numbered_body (past_terms 0 head.terms) body)
numbered (Replace gone come body) =
    Replace (numbered_head 0 gone) (numbered_head (past_terms 0 gone.terms) come) (numbered_body (past_terms (past_terms 0 gone.terms) come.terms) body)
numbered (Require some body) = Require some (numbered_body 0 body)
numbered (Print terms body) = Print (numbered_terms 0 terms) (numbered_body (past_terms 0 terms) body)

-- the text spells a statement of which this is the form
pub record IsFormOf (text : List ℕ) (s : Statement) : Type 0 where
  pub whole : Statement
  pub ts : List Token
  pub line : ℕ
  pub divides : tokens text ≡ (ts, finished line)
  pub spells : SpellsForm formed whole (map (λ (t : Token). t.shape) ts)
  pub is : numbered whole ≡ s
  pub within : IsStatementWithin s
