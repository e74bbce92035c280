-- What whoever asks for the join of a body, or for the evaluation of a statement, sees to.
use Rattle.std.specs.Prelude.{List}
use Rattle.lt_model.specs.declared.normal.Body.{Body}
use Rattle.lt_model.specs.declared.normal.Stmt.{Stmt}
use Rattle.lt_model.specs.Fits.{IsBodyOf, FitsStatement}
use Rattle.lt_query.specs.Needs.{body_of}
use Rattle.lt_query.specs.declared.plans.Plan.{Plan}
use Rattle.lt_query.specs.Runnable.{AreWide}
use Rattle.lt_base.specs.Tables.{Table, state_of}
use Rattle.lt_program.specs.Planned.{IsPlanned}
use Rattle.lt_program.specs.Tally.{HasIndexesOf}

-- the plan is the body's, each index that it goes through is there, and the body fits the database
pub record CanFollow (tables : List Table) (body : Body) (plan : Plan) : Type 0 where
  pub planned : IsPlanned body plan
  pub indexes : HasIndexesOf tables body
  pub fits : IsBodyOf (state_of tables) body

-- each relation has 1 to 8 columns, the statement fits the database, and each index that its plan goes through is there
pub record CanEvaluate (tables : List Table) (stmt : Stmt) : Type 0 where
  pub wide : AreWide (state_of tables)
  pub indexes : HasIndexesOf tables (body_of stmt)
  pub fits : FitsStatement (state_of tables) stmt
