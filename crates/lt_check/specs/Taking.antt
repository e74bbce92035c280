-- What taking terms in text order adds to the notes on a statement's variables.
use Rattle.std.specs.Prelude.{◌≡◌, ℕ, ◌≤◌, Bool, true, false, List, [], ◌∷◌, ◌++◌, map, filter_map, length, None, slice_index_or}
use Rattle.std.specs.List.{list_any}
use Rattle.lt_face.specs.Limits.{most_variables}
use Rattle.lt_model.specs.declared.kind.Kind.TheVariants.{Int}
use Rattle.lt_model.specs.declared.syntax.Term.{Term}
use Rattle.lt_model.specs.declared.kind.Kind.{Kind}
use Rattle.lt_model.specs.declared.syntax.Literal.{Literal}
use Rattle.lt_model.specs.declared.syntax.Literal.TheVariants as literals
use Rattle.lt_model.specs.declared.syntax.Statement.{Statement}
use Rattle.lt_model.specs.declared.syntax.Statement.TheVariants as statements
use Rattle.lt_model.specs.declared.normal.Body.{Body}
use Rattle.lt_model.specs.Schema.{Schema, keys_of}
use Rattle.lt_model.specs.Variables.{atom_of, absent_of, atoms_of}
use Rattle.lt_model.specs.Check.{Choice, atom, term, test_of, atom_fits, literal_fits, is_unknown, is_misfit}
use Rattle.lt_check.specs.Narrowing.{Known, Suits}
use Rattle.lt_check.specs.Seen.{with_variables}
use Rattle.lt_check.specs.declared.notes.Notes.{Notes}
use Rattle.lt_check.specs.declared.taken.Front.{Front}
use Rattle.lt_check.specs.declared.taken.Front.TheVariants as fronts

-- the names are the first of all
abbrev pub IsFront : List (List ℕ) → List (List ℕ) → Type 0
IsFront [] whole = Unit {0}
IsFront (name ∷ names) [] = ⊥
IsFront (name ∷ names) (first ∷ whole) = (name ≡ first) × IsFront names whole

-- all variables of a statement of which these are the first
pub record IsWhole (names : List (List ℕ)) (whole : List (List ℕ)) : Type 0 where
  pub front : IsFront names whole
  pub few : length whole ≤ most_variables

-- a choice that has the kinds that are known. Of a variable past the last nothing is
abbrev pub Allows : Known → Choice → Type 0
Allows known choice = (v : ℕ) → Suits (slice_index_or known v None) (slice_index_or choice v Int)

-- there is no conflict, and the choice has the kinds that are known
pub record Agrees (notes : Notes) (choice : Choice) : Type 0 where
  pub calm : notes.conflict ≡ false
  pub kinds : Allows notes.known choice

-- a condition on the choice of kinds for all variables of a statement
abbrev pub Condition : Type 0
Condition = List (List ℕ) → Choice → Bool

-- Taking these terms, and looking at the condition that they stand in, has led from the one notes to the other. No choice
-- that meets the condition is lost. Where nothing was left open, each choice that agrees meets it.
pub record Takes (terms : List Term) (meets : Condition) (was : Notes) (is : Notes) : Type 0 where
  pub names : is.names ≡ with_variables was.names terms
  pub long : length was.known ≡ length was.names → length is.known ≡ length is.names
  pub keeps : (whole : List (List ℕ)) (choice : Choice) → IsWhole is.names whole → Agrees was choice → meets whole choice ≡ true → Agrees is choice
  pub back : (choice : Choice) → Agrees is choice → Agrees was choice
  pub met : (whole : List (List ℕ)) (choice : Choice) → IsWhole is.names whole → is.open ≡ false → Agrees is choice → meets whole choice ≡ true
  pub shut : is.open ≡ false → was.open ≡ false

-- the terms of a statement were taken, and this condition was looked at
pub record IsTaken (meets : Choice → Bool) (notes : Notes) : Type 0 where
  pub long : length notes.known ≡ length notes.names
  pub keeps : (choice : Choice) → meets choice ≡ true → Agrees notes choice
  pub met : notes.open ≡ false → (choice : Choice) → Agrees notes choice → meets choice ≡ true

-- what a literal says of the kinds of its terms
abbrev pub says : Schema → (Term → Kind) → Literal → Bool
says schema kind (literals.Atom head) = atom_fits schema kind head
says schema kind (literals.Absent head) = atom_fits schema kind head
says schema kind (literals.Cmp left op right) = literal_fits kind (literals.Cmp left op right)
says schema kind (literals.Sum var a minus b) = literal_fits kind (literals.Sum var a minus b)

-- the literals' atoms, negated atoms and tests stand behind those that were there
pub record Adds (schema : Schema) (whole : List (List ℕ)) (taken : List Literal) (was : Body) (is : Body) : Type 0 where
  pub atoms : is.atoms ≡ was.atoms ++ map (atom schema whole) (filter_map atom_of taken)
  pub absents : is.absents ≡ was.absents ++ map (atom schema whole) (filter_map absent_of taken)
  pub tests : is.tests ≡ was.tests ++ filter_map (test_of whole) taken

-- what a statement has before its body
abbrev pub front_of : Schema → List (List ℕ) → Statement → Front
front_of schema whole (statements.Insert head body) = fronts.Insert (atom schema whole head) (keys_of schema head.relation)
front_of schema whole (statements.Delete head body) = fronts.Delete (atom schema whole head)
front_of schema whole (statements.Replace gone come body) = fronts.Replace (atom schema whole gone) (atom schema whole come) (keys_of schema come.relation)
front_of schema whole (statements.Require some body) = fronts.Require some
front_of schema whole (statements.Print terms body) = fronts.Print (map (term whole) terms)

-- a statement with relations that are there and rows of the right length
pub record IsFormed (schema : Schema) (s : Statement) : Type 0 where
  pub known : list_any (is_unknown schema) (atoms_of s) ≡ false
  pub fit : list_any (is_misfit schema) (atoms_of s) ≡ false

-- the terms that a statement prints
abbrev pub printed_terms : Statement → List Term
printed_terms (statements.Print terms body) = terms
printed_terms s = []
