-- The plan that a program keeps of a statement can be followed where the statement fits.
use Rattle.std.proofs.Common.{◌≡◌, sym, subst}
use Rattle.lt_face.specs.State.{State}
use Rattle.lt_model.specs.declared.normal.Stmt.{Stmt}
use Rattle.lt_model.specs.Fits.{FitsStatement}
use Rattle.lt_query.specs.declared.plans.Plan.{Plan}
use Rattle.lt_query.specs.Needs.{body_of}
use Rattle.lt_query.specs.Plan.{IsPlanOf}
use Rattle.lt_query.specs.Runnable.{AreWide, IsRunnable}
use Rattle.lt_query.specs.Stated.{stated_plan}
use Rattle.lt_query.proofs.Running.{IsRunnable-stated}
use Rattle.lt_query.proofs.StatedPlan.{IsPlanOf-stated}
use Rattle.lt_program.specs.Planned.{IsPlanned}
use Rattle.lt_program.proofs.IndexesMade.{body_fits}
use Rattle.lt_program.proofs.KeptSlices.{body_widths}

pub planned_on : (state : State) (stmt : Stmt) (plan : Plan) → AreWide state → FitsStatement state stmt → plan ≡ stated_plan (body_of stmt) → IsPlanned (body_of stmt) plan
planned_on state stmt plan wide fits is = record {
  stated = is;
  of_body = subst (IsPlanOf (body_of stmt)) (sym is) (IsPlanOf-stated (body_of stmt));
  runnable = subst (IsRunnable (body_of stmt)) (sym is) (IsRunnable-stated state (body_of stmt) (body_widths state stmt wide fits) (body_fits state stmt fits));
}
