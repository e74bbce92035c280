-- A program that fits a state has what its run needs.
use Rattle.std.proofs.Common.{◌≡◌, ℕ, zero, suc, ◌≤◌, List, [], ◌∷◌, length, Some, subst, arith}
use Rattle.std.specs.List.{AllByRecursion}
use Rattle.lt_face.specs.Rows.{IsCell, IsRow, IsRowSet, IsAscending}
use Rattle.lt_face.specs.State.{Row, Relation, State}
use Rattle.lt_face.proofs.RowLemmas.{each_weaker}
use Rattle.lt_model.specs.declared.normal.Term.{Term}
use Rattle.lt_model.specs.declared.normal.Term.TheVariants.{Var, Cell}
use Rattle.lt_model.specs.declared.normal.Atom.{Atom}
use Rattle.lt_model.specs.declared.normal.Body.{Body}
use Rattle.lt_model.specs.declared.normal.Stmt.{Stmt}
use Rattle.lt_model.specs.declared.normal.Stmt.TheVariants.{Insert, Delete, Replace, Require, Print}
use Rattle.lt_model.specs.Fits.{IsWide, IsTermOf, IsAtomOf, IsBodyOf, IsHeadOf, test_terms, FitsStatement}
use Rattle.lt_model.specs.Laws.{Rises}
use Rattle.lt_reference.specs.Ready.{IsBody, AreTerms, IsReady}
use Rattle.lt_reference.specs.Run.{lists, IsFitting}
use Rattle.lt_join.specs.Values.{IsTest}
use Rattle.lt_reference.specs.Walk.{IsAtom, IsAbsent, AreCells, bare}
use Rattle.lt_reference.proofs.LaidRows.{bare_each}

term_of : (vars : ℕ) (t : Term) → vars ≤ 16 → IsTermOf vars t → IsTermOf 16 t
term_of vars (Var v) le h = omega arith
term_of vars (Cell c) le h = h

terms_of : (vars : ℕ) (ts : List Term) → vars ≤ 16 → AllByRecursion (IsTermOf vars) ts → AllByRecursion (IsTermOf 16) ts
terms_of vars ts le h = each_weaker (IsTermOf vars) (IsTermOf 16) (λ t k. term_of vars t le k) ts h

some_is : (x y : ℕ) → Some x ≡ Some y → x ≡ y
some_is x y e = cc

abbrev pub IsNarrow : State → Type 0
IsNarrow state = AllByRecursion (λ (relation : Relation). relation.width ≤ 8) state

narrow_at : (state : State) (r w : ℕ) → IsNarrow state → IsWide state r w → w ≤ 8
narrow_at [] zero w h wide = cc
narrow_at [] (suc r) w h wide = cc
narrow_at (relation ∷ state) zero w h wide = subst (λ n. n ≤ 8) (some_is relation.width w wide) h.0
narrow_at (relation ∷ state) (suc r) w h wide = narrow_at state r w h.1 wide

pub body_of : (state : State) (body : Body) → IsNarrow state → IsBodyOf state body → IsBody body
body_of state body narrow fits = record {
  atoms = each_weaker (IsAtomOf state body.vars) IsAtom (λ atom h. terms_of body.vars atom.terms fits.has_few_variables h.has_terms) body.atoms fits.atoms;
  absents =
      each_weaker (IsAtomOf state body.vars) IsAbsent
      (λ atom h. (terms_of body.vars atom.terms fits.has_few_variables h.has_terms, narrow_at state atom.relation (length atom.terms) narrow h.is_wide)) body.absents fits.absents;
  tests = each_weaker (λ test. AllByRecursion (IsTermOf body.vars) (test_terms test)) IsTest (λ test h. terms_of body.vars (test_terms test) fits.has_few_variables h) body.tests fits.tests;
}

pub head_of : (state : State) (body : Body) (head : Atom) → IsNarrow state → IsBodyOf state body → IsHeadOf state body head → AreTerms body head.terms
head_of state body head narrow fits h = record {
  narrow = narrow_at state head.relation (length head.terms) narrow h.fits.is_wide;
  cells = terms_of body.vars head.terms fits.has_few_variables h.fits.has_terms;
  bound = h.is_bound;
}

pub statement_of : (state : State) (stmt : Stmt) → IsNarrow state → FitsStatement state stmt → IsReady stmt
statement_of state (Insert head keys body) narrow h = (body_of state body narrow h.0, head_of state body head narrow h.0 h.1, h.2)
statement_of state (Delete head body) narrow h = (body_of state body narrow h.0, head_of state body head narrow h.0 h.1)
statement_of state (Replace gone come keys body) narrow h = (body_of state body narrow h.0, head_of state body gone narrow h.0 h.1, head_of state body come narrow h.0 h.2, h.3)
statement_of state (Require some body) narrow h = body_of state body narrow h
statement_of state (Print terms kinds body) narrow h = (
  body_of state body narrow h.0,
  record {
    narrow = (let wide = h.1.is_wide in let few = h.1.has_few in omega arith);
    cells = terms_of body.vars terms h.0.has_few_variables h.1.has_terms;
    bound = h.1.is_bound;
  },
)

pub ready : (rows : List (List Row)) (program : List Stmt) → IsFitting rows program → AllByRecursion IsReady program
ready rows program fitting = each_weaker (FitsStatement fitting.state) IsReady (λ stmt h. statement_of fitting.state stmt fitting.narrow h) program fitting.fits.each

pub each_list : (P : List Row → Type 0) (state : State) → AllByRecursion (λ (relation : Relation). P relation.rows) state → AllByRecursion P (lists state)
each_list P [] h = tt
each_list P (relation ∷ state) h = (h.0, each_list P state h.1)

pub rises : (rows : List (List Row)) (program : List Stmt) → IsFitting rows program → Rises (bare rows)
rises rows program fitting =
    bare_each IsAscending rows (subst (AllByRecursion IsAscending) fitting.has
    (each_list IsAscending fitting.state (each_weaker (λ (r : Relation). IsRowSet r.width r.rows) (λ (r : Relation). IsAscending r.rows) (λ r h. h.rises) fitting.state fitting.is_state)))

pub cells : (rows : List (List Row)) (program : List Stmt) → IsFitting rows program → AreCells rows
cells rows program fitting =
    subst AreCells fitting.has
    (each_list (AllByRecursion (AllByRecursion IsCell)) fitting.state
    (each_weaker (λ (r : Relation). IsRowSet r.width r.rows) (λ (r : Relation). AllByRecursion (AllByRecursion IsCell) r.rows) (λ r h. each_weaker (IsRow r.width) (AllByRecursion IsCell) (λ row k. k.has_cells) r.rows h.each) fitting.state fitting.is_state))
