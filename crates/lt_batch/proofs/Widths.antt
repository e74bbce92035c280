-- Marks laid on a state change no width, so what fits the one fits the other.
use Rattle.std.proofs.Common.{◌≡◌, ℕ, zero, suc, List, [], ◌∷◌, Option, refl, sym, ap, ◌∙◌}
use Rattle.std.specs.Prelude.{slice_get, option_map}
use Rattle.std.specs.List.{AllByRecursion}
use Rattle.lt_face.specs.State.{Row, Relation, State}
use Rattle.lt_face.proofs.RowLemmas.{each_weaker}
use Rattle.lt_model.specs.declared.normal.Atom.{Atom}
use Rattle.lt_model.specs.declared.normal.Body.{Body}
use Rattle.lt_model.specs.declared.normal.Stmt.{Stmt}
use Rattle.lt_model.specs.declared.normal.Stmt.TheVariants.{Insert, Delete, Replace, Require, Print}
use Rattle.lt_model.specs.Fits.{IsWide, IsAtomOf, IsBodyOf, IsHeadOf, FitsStatement, Fits, IsMarkOf, FitMarks}
use Rattle.lt_model.specs.Marks.{Marks, write, change, lay, laid}

-- the width of a relation, where it is there
abbrev pub width_in : State → ℕ → Option ℕ
width_in state relation = option_map (λ (r : Relation). r.width) (slice_get state relation)

-- the same relations, as wide
abbrev pub AreAsWide : State → State → Type 0
AreAsWide s t = (relation : ℕ) → width_in s relation ≡ width_in t relation

as_wide-change : (n : ℕ) (f : List Row → List Row) (state : State) (r : ℕ) → width_in (change n f state) r ≡ width_in state r
as_wide-change n f [] r = refl
as_wide-change zero f (relation ∷ state) zero = refl
as_wide-change zero f (relation ∷ state) (suc r) = refl
as_wide-change (suc n) f (relation ∷ state) zero = refl
as_wide-change (suc n) f (relation ∷ state) (suc r) = as_wide-change n f state r

pub as_wide-laid : (state : State) (marks : Marks) → AreAsWide (laid state marks) state
as_wide-laid state [] r = refl
as_wide-laid state (m ∷ marks) r = as_wide-laid (lay state m) marks r ∙ as_wide-change m.relation (write m) state r

pub wide_laid : (old s new : State) (marks : Marks) → s ≡ old → new ≡ laid s marks → (relation width : ℕ) → IsWide old relation width → IsWide new relation width
wide_laid old s new marks same is relation width wide =
    ap (λ state. width_in state relation) is
    ∙ as_wide-laid s marks relation
    ∙ ap (λ state. width_in state relation) same
    ∙ wide

-- a fact of each width
widths-change : (P : ℕ → Type 0) (n : ℕ) (f : List Row → List Row) (state : State) → AllByRecursion (λ (r : Relation). P r.width) state → AllByRecursion (λ (r : Relation). P r.width) (change n f state)
widths-change P n f [] all = tt
widths-change P zero f (relation ∷ state) all = all
widths-change P (suc n) f (relation ∷ state) all = (all.0, widths-change P n f state all.1)

pub widths-laid : (P : ℕ → Type 0) (state : State) (marks : Marks) → AllByRecursion (λ (r : Relation). P r.width) state → AllByRecursion (λ (r : Relation). P r.width) (laid state marks)
widths-laid P state [] all = all
widths-laid P state (m ∷ marks) all = widths-laid P (lay state m) marks (widths-change P m.relation (write m) state all)

module _ (s t : State) (same : AreAsWide s t) where
  atom_fits : (vars : ℕ) (atom : Atom) → IsAtomOf s vars atom → IsAtomOf t vars atom
  atom_fits vars atom h = record { is_wide = sym (same atom.relation) ∙ h.is_wide; has_terms = h.has_terms }

  body_fits : (body : Body) → IsBodyOf s body → IsBodyOf t body
  body_fits body h = record {
    atoms = each_weaker (IsAtomOf s body.vars) (IsAtomOf t body.vars) (atom_fits body.vars) body.atoms h.atoms;
    absents = each_weaker (IsAtomOf s body.vars) (IsAtomOf t body.vars) (atom_fits body.vars) body.absents h.absents;
    tests = h.tests;
    is_bound = h.is_bound;
    are_absents_bound = h.are_absents_bound;
    has_few_variables = h.has_few_variables;
    has_few_literals = h.has_few_literals;
  }

  head_fits : (body : Body) (head : Atom) → IsHeadOf s body head → IsHeadOf t body head
  head_fits body head h = record { fits = atom_fits body.vars head h.fits; is_bound = h.is_bound }

  statement_fits : (stmt : Stmt) → FitsStatement s stmt → FitsStatement t stmt
  statement_fits (Insert head keys body) h = (body_fits body h.0, head_fits body head h.1, h.2)
  statement_fits (Delete head body) h = (body_fits body h.0, head_fits body head h.1)
  statement_fits (Replace gone come keys body) h = (body_fits body h.0, head_fits body gone h.1, head_fits body come h.2, h.3)
  statement_fits (Require some body) h = body_fits body h
  statement_fits (Print terms kinds body) h = (body_fits body h.0, h.1)

  pub program_fits : (program : List Stmt) → Fits s program → Fits t program
  program_fits program h = record { each = each_weaker (FitsStatement s) (FitsStatement t) statement_fits program h.each; has_few = h.has_few }

  pub marks_fit : (marks : Marks) → FitMarks s marks → FitMarks t marks
  marks_fit marks all = each_weaker (IsMarkOf s) (IsMarkOf t) (λ m h. record { is_wide = sym (same m.relation) ∙ h.is_wide; has_cells = h.has_cells }) marks all
