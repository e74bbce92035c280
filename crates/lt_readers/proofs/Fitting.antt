-- What fits the first version fits each later one.
use Rattle.std.proofs.Common.{◌≡◌, ◌∙◌, ℕ, List, length, Some, slice_get, sym, subst}
use mathlib.Core.List.{IsPrefix}
use Rattle.lt_face.specs.State.{State}
use Rattle.lt_face.proofs.RowLemmas.{each_weaker}
use Rattle.lt_model.specs.declared.normal.Atom.{Atom}
use Rattle.lt_model.specs.declared.normal.Body.{Body}
use Rattle.lt_model.specs.declared.normal.Stmt.{Stmt}
use Rattle.lt_model.specs.declared.normal.Stmt.TheVariants.{Insert, Delete, Replace, Require, Print}
use Rattle.lt_model.specs.Fits.{IsAtomOf, IsBodyOf, IsHeadOf, FitsStatement, Fits}
use Rattle.lt_base.specs.Tables.{state_of}
use Rattle.lt_readers.specs.declared.version.Version.{Version}
use Rattle.lt_readers.specs.Lists.{EndsIn, IsHistory, HasRelations}
use Rattle.lt_readers.specs.Boards.{FitsFirst}
use Rattle.lt_readers.proofs.Beginnings.{first_get, last_get, prefix_get, some_same}

module _ (s t : State) (wide : HasRelations s t) where
  atom_fits : (vars : ℕ) (atom : Atom) → IsAtomOf s vars atom → IsAtomOf t vars atom
  atom_fits vars atom h = record { is_wide = wide atom.relation (length atom.terms) h.is_wide; has_terms = h.has_terms }

  body_fits : (body : Body) → IsBodyOf s body → IsBodyOf t body
  body_fits body h = record {
    atoms = each_weaker (IsAtomOf s body.vars) (IsAtomOf t body.vars) (atom_fits body.vars) body.atoms h.atoms;
    absents = each_weaker (IsAtomOf s body.vars) (IsAtomOf t body.vars) (atom_fits body.vars) body.absents h.absents;
    tests = h.tests;
    is_bound = h.is_bound;
    are_absents_bound = h.are_absents_bound;
    has_few_variables = h.has_few_variables;
    has_few_literals = h.has_few_literals;
  }

  head_fits : (body : Body) (head : Atom) → IsHeadOf s body head → IsHeadOf t body head
  head_fits body head h = record { fits = atom_fits body.vars head h.fits; is_bound = h.is_bound }

  statement_fits : (stmt : Stmt) → FitsStatement s stmt → FitsStatement t stmt
  statement_fits (Insert head keys body) h = (body_fits body h.0, head_fits body head h.1, h.2)
  statement_fits (Delete head body) h = (body_fits body h.0, head_fits body head h.1)
  statement_fits (Replace gone come keys body) h = (body_fits body h.0, head_fits body gone h.1, head_fits body come h.2, h.3)
  statement_fits (Require some body) h = body_fits body h
  statement_fits (Print terms kinds body) h = (body_fits body h.0, h.1)

  program_fits : (program : List Stmt) → Fits s program → Fits t program
  program_fits program h = record { each = each_weaker (FitsStatement s) (FitsStatement t) statement_fits program h.each; has_few = h.has_few }

pub fits_at : (log : List Version) (u v : Version) (i : ℕ) (program : List Stmt) → IsHistory log → slice_get log 0 ≡ Some u → slice_get log i ≡ Some v → Fits (state_of u.db) program → Fits (state_of v.db) program
fits_at log u v i program h begins there fits = program_fits (state_of u.db) (state_of v.db) (h u begins i v there).3 program fits

pub fits_last : (log : List Version) (v : Version) (program : List Stmt) → IsHistory log → EndsIn log v → FitsFirst log program → Fits (state_of v.db) program
fits_last log v program h ends fits =
    let u = first_get log v ends in
    let l = last_get log v ends in
    fits_at log u.0 v l.0 program h u.1 l.2 (fits u.0 u.1)

pub fits_later : (xs ys : List Version) (v : Version) (program : List Stmt) → EndsIn xs v → IsPrefix xs ys → FitsFirst xs program → FitsFirst ys program
fits_later xs ys v program ends pre fits w begins =
    let u = first_get xs v ends in
    subst (λ (x : Version). Fits (state_of x.db) program) (some_same u.0 w (sym (prefix_get xs ys 0 u.0 pre u.1) ∙ begins)) (fits u.0 u.1)
