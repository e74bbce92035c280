-- What a reply is, and what a statement reads.
use Rattle.std.specs.Prelude.{ℕ, Bool, ◌||◌, ◌==◌, nat_lt, length, List, [], ◌∷◌, if◌then◌else◌}
use Rattle.std.specs.List.{AllByRecursion, list_any}
use Rattle.lt_face.specs.Rows.{IsRow}
use Rattle.lt_model.specs.declared.mark.Mark.{Mark}
use Rattle.lt_model.specs.declared.normal.Atom.{Atom}
use Rattle.lt_model.specs.declared.normal.Stmt.{Stmt}
use Rattle.lt_model.specs.declared.normal.Stmt.TheVariants.{Insert, Delete, Replace, Require, Print}
use Rattle.lt_model.specs.Effect.{is_plain}
use Rattle.lt_model.specs.declared.reply.Printed.{Printed}
use Rattle.lt_model.specs.declared.reply.Reply.{Reply}
use Rattle.lt_model.specs.declared.reply.Reply.TheVariants.{Done, Refused}
use Rattle.lt_model.specs.Marks.{Marks}
use Rattle.lt_query.specs.Needs.{body_of}

-- printed rows have as many cells as kinds
abbrev pub ArePrinted : Printed → Type 0
ArePrinted printed = AllByRecursion (IsRow (length printed.kinds)) printed.rows

abbrev pub AreReplied : Reply → Type 0
AreReplied (Done prints) = AllByRecursion ArePrinted prints
AreReplied (Refused j) = Unit {0}

-- the head whose rows displace others, if the statement has one
abbrev pub displacing_heads : Stmt → List Atom
displacing_heads (Insert head keys body) = if is_plain head keys then [] else head ∷ []
displacing_heads (Delete head body) = []
displacing_heads (Replace gone come keys body) = if is_plain come keys then [] else come ∷ []
displacing_heads (Require some body) = []
displacing_heads (Print terms kinds body) = []

-- whether a statement reads a relation, looks a row up in one, or displaces rows of one
abbrev pub reads_rows : Stmt → Bool
reads_rows stmt = nat_lt 0 (length (body_of stmt).atoms) || (nat_lt 0 (length (body_of stmt).absents) || nat_lt 0 (length (displacing_heads stmt)))

-- whether one of the marks is on the relation
abbrev pub is_marked : Marks → ℕ → Bool
is_marked marks relation = list_any (λ (mark : Mark). mark.relation == relation) marks

-- whether one of the marks is on a relation of these atoms
abbrev pub are_marked : Marks → List Atom → Bool
are_marked marks atoms = list_any (λ (atom : Atom). is_marked marks atom.relation) atoms

-- whether a statement reads a relation that one of the marks is on, looks a row up in one, or displaces rows of one
abbrev pub reads_marked_in : Marks → Stmt → Bool
reads_marked_in marks stmt = are_marked marks (body_of stmt).atoms || (are_marked marks (body_of stmt).absents || are_marked marks (displacing_heads stmt))
