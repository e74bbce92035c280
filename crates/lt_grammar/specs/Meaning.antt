-- What the syntax tree stands for: an item of the language, with its cells in place of digits and texts.
use Rattle.std.specs.Prelude.{ℕ, List, ◌∷◌, ◌++◌, length, map, Option, Some, None}
use Rattle.lt_model.specs.declared.kind.Kind.TheVariants.{Int, Sym}
use Rattle.lt_model.specs.declared.syntax.Term.{Term}
use Rattle.lt_model.specs.declared.syntax.Term.TheVariants.{Name, Cell}
use Rattle.lt_model.specs.declared.syntax.Head.{Head}
use Rattle.lt_model.specs.declared.syntax.Literal.{Literal}
use Rattle.lt_model.specs.declared.syntax.Literal.TheVariants.{Atom, Absent, Cmp, Sum}
use Rattle.lt_model.specs.declared.syntax.Statement.{Statement}
use Rattle.lt_model.specs.declared.syntax.Statement.TheVariants.{Insert, Delete, Replace, Require, Print}
use Rattle.lt_model.specs.declared.syntax.Program.{Program}
use Rattle.lt_model.specs.declared.syntax.Item.{Item}
use Rattle.lt_model.specs.declared.syntax.Item.TheVariants.{Relation, Batch, Show}
use Rattle.lt_model.specs.Cells.{sym_cell}
use Rattle.lt_model.specs.Grammar.{Level, formed, few, fine, legal, digits_value, signed_cell}
use Rattle.lt_reading.specs.Language as reading
use Rattle.lt_grammar.specs.Tokens.{Text}
use Rattle.lt_grammar.specs.Grammar as tree

-- the language's level: what is full is legal
abbrev pub level_of : reading.Level → Level
level_of reading.formed = formed
level_of reading.few = few
level_of reading.fine = fine
level_of reading.full = legal

abbrev pub term_value : tree.Term → Term
term_value (tree.name text) = Name text
term_value (tree.numeral minus digits) = Cell Int (signed_cell minus (digits_value digits))
term_value (tree.quoted text) = Cell Sym (sym_cell text)

abbrev pub terms_value : tree.Term → List tree.Term → List Term
terms_value t ts = term_value t ∷ map term_value ts

abbrev pub head_value : tree.Head → Head
head_value h = record { relation = h.relation; terms = terms_value h.first h.others }

abbrev pub literal_value : tree.Literal → Literal
literal_value (tree.atom h) = Atom (head_value h)
literal_value (tree.absent h) = Absent (head_value h)
literal_value (tree.compare left op right) = Cmp (term_value left) op (term_value right)
literal_value (tree.sum v a minus b) = Sum v (term_value a) minus (term_value b)

abbrev pub body_value : tree.Literal → List tree.Literal → List Literal
body_value l ls = literal_value l ∷ map literal_value ls

abbrev pub statement_value : tree.Statement → Statement
statement_value (tree.insert h body) = Insert (head_value h) (map literal_value body)
statement_value (tree.delete h body) = Delete (head_value h) (map literal_value body)
statement_value (tree.replace gone come body) = Replace (head_value gone) (head_value come) (map literal_value body)
statement_value (tree.require some l ls) = Require some (body_value l ls)
statement_value (tree.print t ts l ls) = Print (terms_value t ts) (body_value l ls)

abbrev pub program_value : tree.Program → Program
program_value p = record { name = p.name; statements = map statement_value p.statements }

abbrev pub version_value : Option Text → Option ℕ
version_value None = None
version_value (Some digits) = Some (digits_value digits)

abbrev pub item_value : tree.Item → Item
item_value (tree.relation r k ks vs) = Relation r ((k ∷ ks) ++ vs) (length (k ∷ ks))
item_value (tree.batch ps) = Batch (map program_value ps)
item_value (tree.show r version) = Show r (version_value version)
