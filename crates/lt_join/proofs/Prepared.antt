-- A body that fits its state, and a plan of it, can be walked.
use Rattle.std.specs.Prelude.{◌<◌, ◌≤◌, ℕ, Bool, List, length}
use Rattle.std.specs.List.{AllByRecursion}
use Rattle.std.proofs.Common.{arith}
use Rattle.lt_face.specs.State.{State}
use Rattle.lt_face.proofs.RowLemmas.{each_weaker}
use Rattle.lt_model.specs.declared.normal.Term.{Term}
use Rattle.lt_model.specs.declared.normal.Term.TheVariants.{Var, Cell}
use Rattle.lt_model.specs.declared.normal.Atom.{Atom}
use Rattle.lt_model.specs.declared.normal.Body.{Body}
use Rattle.lt_model.specs.Fits.{IsTermOf, IsAtomOf, IsBodyOf, test_terms}
use Rattle.lt_query.specs.declared.plans.Level.{Level}
use Rattle.lt_query.specs.declared.plans.Guide.{Guide}
use Rattle.lt_query.specs.declared.plans.Plan.{Plan}
use Rattle.lt_query.specs.Runnable.{IsRunnable, IsWidth}
use Rattle.lt_join.specs.Values.{IsTest}
use Rattle.lt_join.specs.Asked.{CanJoin, AreAnswerable}
use Rattle.lt_join.specs.Holders.{IsPrepared}
use Rattle.lt_join.specs.Parts.{IsJoinable}

small_term : (vars : ℕ) → vars ≤ 16 → (t : Term) → IsTermOf vars t → IsTermOf 16 t
small_term vars few (Var v) h = omega arith
small_term vars few (Cell c) h = h

pub IsPrepared-from : (state : State) (body : Body) (plan : Plan) (terms : List Term) → IsBodyOf state body → IsRunnable body plan → length terms ≤ 8 → IsPrepared body plan terms
IsPrepared-from state body plan terms fits runnable narrow = record {
  runnable = runnable;
  tests = each_weaker (λ test. AllByRecursion (IsTermOf body.vars) (test_terms test)) IsTest
      (λ test h. each_weaker (IsTermOf body.vars) (IsTermOf 16) (small_term body.vars fits.has_few_variables) (test_terms test) h) body.tests fits.tests;
  absents = each_weaker (λ (atom : Atom). IsAtomOf state body.vars atom) (λ (atom : Atom). AllByRecursion (IsTermOf 16) atom.terms)
      (λ atom h. each_weaker (IsTermOf body.vars) (IsTermOf 16) (small_term body.vars fits.has_few_variables) atom.terms h.has_terms) body.absents fits.absents;
  variables = each_weaker (λ (level : Level). IsTermOf body.vars level.term) (λ (level : Level). IsTermOf 16 level.term)
      (λ level h. small_term body.vars fits.has_few_variables level.term h) plan.levels runnable.variables;
  narrow = narrow;
}

-- a body and a plan with a level can be walked by ranges of its keys
pub IsJoinable-from : (state : State) (has_index : ℕ → List ℕ → Bool) (body : Body) (plan : Plan) (terms : List Term) → CanJoin state has_index body plan → AreAnswerable body terms → 0 < length plan.levels
    → IsJoinable state has_index body plan terms
IsJoinable-from state has_index body plan terms can answerable some = record {
  of_body = can.of_body;
  prepared = IsPrepared-from state body plan terms can.fits can.runnable answerable.narrow;
  has_indexes = can.has_indexes;
  has_firsts = can.has_firsts;
  tests = (can.fits.is_bound, can.fits.are_absents_bound);
  heads = answerable.are_bound;
  has_levels = some;
}

-- each atom has columns
pub has_columns : (guides : List Guide) → AllByRecursion (λ (guide : Guide). IsWidth (length guide.places)) guides → AllByRecursion (λ (guide : Guide). 0 < length guide.places) guides
has_columns guides h = each_weaker (λ (guide : Guide). IsWidth (length guide.places)) (λ (guide : Guide). 0 < length guide.places) (λ guide w. omega (arith, w.0)) guides h
