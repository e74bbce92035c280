-- A statement that fits a state fits it with marks laid on it.
use Rattle.std.proofs.Common.{◌≡◌, ℕ, zero, suc, ◌≤◌, List, [], ◌∷◌, length, Some, subst}
use Rattle.lt_face.specs.State.{Row, State}
use Rattle.lt_face.proofs.RowLemmas.{each_weaker}
use Rattle.lt_model.specs.declared.normal.Atom.{Atom}
use Rattle.lt_model.specs.declared.normal.Body.{Body}
use Rattle.lt_model.specs.declared.normal.Stmt.{Stmt}
use Rattle.lt_model.specs.declared.normal.Stmt.TheVariants.{Insert, Delete, Replace, Require, Print}
use Rattle.lt_model.specs.Fits.{IsWide, IsAtomOf, IsBodyOf, IsHeadOf, FitsStatement}
use Rattle.lt_model.specs.Marks.{Marks, write, change, lay, laid}
use Rattle.lt_delta.proofs.Kept.{IsWide-change}
use Rattle.lt_query.specs.Runnable.{AreWide}

pub IsWide-laid : (state : State) (marks : Marks) (r w : ℕ) → IsWide state r w → IsWide (laid state marks) r w
IsWide-laid state [] r w h = h
IsWide-laid state (m ∷ marks) r w h = IsWide-laid (lay state m) marks r w (IsWide-change m.relation (write m) state r w h)

change_all : (n : ℕ) (f : List Row → List Row) (state : State) → AreWide state → AreWide (change n f state)
change_all n f [] h = h
change_all zero f (relation ∷ state) h = h
change_all (suc n) f (relation ∷ state) h = (h.0, change_all n f state h.1)

pub AreWide-laid : (state : State) (marks : Marks) → AreWide state → AreWide (laid state marks)
AreWide-laid state [] h = h
AreWide-laid state (m ∷ marks) h = AreWide-laid (lay state m) marks (change_all m.relation (write m) state h)

module _ (state : State) (marks : Marks) where
  atom_laid : (vars : ℕ) (atom : Atom) → IsAtomOf state vars atom → IsAtomOf (laid state marks) vars atom
  atom_laid vars atom h = record { is_wide = IsWide-laid state marks atom.relation (length atom.terms) h.is_wide; has_terms = h.has_terms }

  body_laid : (body : Body) → IsBodyOf state body → IsBodyOf (laid state marks) body
  body_laid body h = record {
    atoms = each_weaker (IsAtomOf state body.vars) (IsAtomOf (laid state marks) body.vars) (λ atom k. atom_laid body.vars atom k) body.atoms h.atoms;
    absents = each_weaker (IsAtomOf state body.vars) (IsAtomOf (laid state marks) body.vars) (λ atom k. atom_laid body.vars atom k) body.absents h.absents;
    tests = h.tests;
    is_bound = h.is_bound;
    are_absents_bound = h.are_absents_bound;
    has_few_variables = h.has_few_variables;
    has_few_literals = h.has_few_literals;
  }

  head_laid : (body : Body) (head : Atom) → IsHeadOf state body head → IsHeadOf (laid state marks) body head
  head_laid body head h = record { fits = atom_laid body.vars head h.fits; is_bound = h.is_bound }

  pub FitsStatement-laid : (stmt : Stmt) → FitsStatement state stmt → FitsStatement (laid state marks) stmt
  FitsStatement-laid (Insert head keys body) h = (body_laid body h.0, head_laid body head h.1, h.2)
  FitsStatement-laid (Delete head body) h = (body_laid body h.0, head_laid body head h.1)
  FitsStatement-laid (Replace gone come keys body) h = (body_laid body h.0, head_laid body gone h.1, head_laid body come h.2, h.3)
  FitsStatement-laid (Require some body) h = body_laid body h
  FitsStatement-laid (Print terms kinds body) h = (body_laid body h.0, h.1)

some_is : (x y : ℕ) → Some x ≡ Some y → x ≡ y
some_is x y e = cc

-- a relation that is there has at most 8 columns
pub width_at : (state : State) (r w : ℕ) → AreWide state → IsWide state r w → w ≤ 8
width_at [] zero w h wide = cc
width_at [] (suc r) w h wide = cc
width_at (relation ∷ state) zero w h wide = subst (λ n. n ≤ 8) (some_is relation.width w wide) h.0.1
width_at (relation ∷ state) (suc r) w h wide = width_at state r w h.1 wide
