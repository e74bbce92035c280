use Rattle.std.proofs.Common.{◌≡◌, List, ap, subst, sym}
use Rattle.std.specs.Arc.{arc_value}
use Rattle.lt_face.specs.State.{State}
use Rattle.lt_model.specs.declared.normal.Stmt.{Stmt}
use Rattle.lt_model.specs.Fits.{FitMarks}
use Rattle.lt_base.specs.Tables.{state_of}
use Rattle.lt_batch.specs.Folding.{IsRanOn}
use Rattle.lt_batch.proofs.KeptRuns.{kept_at_once}
use Rattle.lt_batch.proofs.ahead.run_early.Goals as goal

pub returns-then-keeps : goal.returns-then-keeps
returns-then-keeps g c =
    kept_at_once (arc_value c.args.prog.now) (state_of c.args.db.now) c.in_ok-tally.tally c.in_ok-tally.ensures.program (ap state_of c.in_ok-tally.ensures.base) c.in_ok-tally.ensures.ended

pub returns : goal.returns
returns g c =
    let state : state_of c.in_ok-own.own ≡ state_of c.args.db.now = ap state_of c.in_ok-own.ensures in
    let on : IsRanOn c.deref.result.now (state_of c.in_ok-own.own) c.in_ok-ran.ran = record {
      reply = c.in_ok-ran.ensures.reply;
      marks = c.in_ok-ran.ensures.marks;
      fits = subst (FitMarks (state_of c.in_ok-own.own)) (sym c.in_ok-ran.ensures.marks) c.in_ok-ran.ensures.fits;
      printed = c.in_ok-ran.ensures.printed;
    } in
    subst (λ (p : List Stmt). IsRanOn p (state_of c.args.db.now) c.in_ok-ran.ran) c.deref.ensures
    (subst (λ (s : State). IsRanOn c.deref.result.now s c.in_ok-ran.ran) state on)
