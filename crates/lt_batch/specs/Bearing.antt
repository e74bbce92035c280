-- Whether a row that a mark is on may be one that a program reads.
use Rattle.std.specs.Prelude.{ℕ, Bool, true, false, not, ◌&&◌, ◌||◌, ◌==◌, List, [], ◌∷◌, take}
use Rattle.std.specs.List.{list_any}
use Rattle.lt_face.specs.State.{Row}
use Rattle.lt_model.specs.declared.mark.Mark.{Mark}
use Rattle.lt_model.specs.declared.normal.Term.{Term}
use Rattle.lt_model.specs.declared.normal.Term.TheVariants.{Var, Cell}
use Rattle.lt_model.specs.declared.normal.Atom.{Atom}
use Rattle.lt_model.specs.declared.normal.Stmt.{Stmt}
use Rattle.lt_model.specs.declared.normal.Stmt.TheVariants.{Insert, Delete, Replace, Require, Print}
use Rattle.lt_model.specs.Effect.{is_plain}
use Rattle.lt_model.specs.Marks.{Marks}
use Rattle.lt_query.specs.Needs.{body_of}

-- whether the term may have the cell: a constant has its own alone
abbrev pub may_be : Term → ℕ → Bool
may_be (Cell c) x = c == x
may_be (Var v) x = true

-- whether the cells may be those of the terms
abbrev pub may_be_of : List Term → Row → Bool
may_be_of [] row = true
may_be_of (term ∷ terms) [] = true
may_be_of (term ∷ terms) (x ∷ row) = may_be term x && may_be_of terms row

-- whether the mark's row may be of one of the atoms
abbrev pub bears_on_atoms : Mark → List Atom → Bool
bears_on_atoms mark atoms = list_any (λ (atom : Atom). mark.relation == atom.relation && may_be_of atom.terms mark.row) atoms

-- whether it may have the key of a row of the head, whose relation has value columns
abbrev pub bears_on_head : Mark → ℕ → Atom → Bool
bears_on_head mark keys head = not (is_plain head keys) && (mark.relation == head.relation && may_be_of (take keys head.terms) mark.row)

abbrev pub bears_on_coming : Mark → Stmt → Bool
bears_on_coming mark (Insert head keys body) = bears_on_head mark keys head
bears_on_coming mark (Delete head body) = false
bears_on_coming mark (Replace gone come keys body) = bears_on_head mark keys come
bears_on_coming mark (Require some body) = false
bears_on_coming mark (Print terms kinds body) = false

-- whether the statement may read the mark's row, look it up, or displace it
abbrev pub bears_on : Mark → Stmt → Bool
bears_on mark stmt = bears_on_atoms mark (body_of stmt).atoms || (bears_on_atoms mark (body_of stmt).absents || bears_on_coming mark stmt)

-- whether one of the statements may
abbrev pub bears_on_some : List Stmt → Mark → Bool
bears_on_some program mark = list_any (bears_on mark) program
