use Rattle.std.proofs.Common.{◌≡◌, ◌∙◌, List, sym, ap, subst}
use Rattle.lt_face.specs.State.{Row, State}
use Rattle.lt_model.specs.declared.reply.Reply.{Reply}
use Rattle.lt_model.specs.Laws.{Rises}
use Rattle.lt_model.specs.Marks.{Marks}
use Rattle.lt_model.specs.Run.{run}
use Rattle.lt_model.specs.Fits.{FitMarks}
use Rattle.lt_program.specs.Run.{AreReplied}
use Rattle.lt_program.proofs.FittingRuns.{run_fits}
use Rattle.lt_reference.specs.Run.{lists}
use Rattle.lt_reference.specs.Walk.{AreCells, bare}
use Rattle.lt_reference.proofs.BareStates.{run-plain}
use Rattle.lt_reference.proofs.Ready as fitting
use Rattle.lt_reference.proofs.plain.run_plain.Goals as goal
use Rattle.lt_reference.proofs.plain.run_plain.Goals.{In_ok-out}

pub run_on-requires-clause-ready : goal.run_on-requires-clause-ready
run_on-requires-clause-ready c = fitting.ready c.args.rows.now c.args.prog.now c.requires

pub run_on-requires-clause-rises : goal.run_on-requires-clause-rises
run_on-requires-clause-rises c = subst (λ (rows : List (List Row)). Rises (bare rows)) (sym c.in_ok-relations.ensures) (fitting.rises c.args.rows.now c.args.prog.now c.requires)

pub run_on-requires-clause-cells : goal.run_on-requires-clause-cells
run_on-requires-clause-cells c = subst AreCells (sym c.in_ok-relations.ensures) (fitting.cells c.args.rows.now c.args.prog.now c.requires)

-- the run on the copies is that on each state with these rows
same_run : (c : In_ok-out) (state : State) → lists state ≡ c.args.rows.now → run c.args.prog.now (bare c.in_ok-relations.relations.items) ≡ run c.args.prog.now state
same_run c state has =
    ap (λ (rows : List (List Row)). run c.args.prog.now (bare rows)) c.in_ok-relations.ensures
    ∙ run-plain c.args.prog.now state c.args.rows.now has

pub returns-clause-reply : goal.returns-clause-reply
returns-clause-reply c = λ state has. c.in_ok-out.ensures.reply ∙ ap (λ (out : Reply × Marks). out.0) (same_run (goal.at.returns-clause-reply c).In_ok-out state has)

pub returns-clause-marks : goal.returns-clause-marks
returns-clause-marks c = λ state has. c.in_ok-out.ensures.marks ∙ ap (λ (out : Reply × Marks). out.1) (same_run (goal.at.returns-clause-marks c).In_ok-out state has)

pub returns-clause-fits : goal.returns-clause-fits
returns-clause-fits c = λ fitting.
    let told = c.in_ok-out.ensures.marks ∙ ap (λ (out : Reply × Marks). out.1) (same_run (goal.at.returns-clause-fits c).In_ok-out fitting.state fitting.has) in
    subst (FitMarks fitting.state) (sym told) (run_fits fitting.state c.args.prog.now fitting.is_state fitting.fits).0

pub returns-clause-printed : goal.returns-clause-printed
returns-clause-printed c =
    let f = c.requires in
    let told = c.in_ok-out.ensures.reply ∙ ap (λ (out : Reply × Marks). out.0) (same_run (goal.at.returns-clause-printed c).In_ok-out f.state f.has) in
    subst AreReplied (sym told) (run_fits f.state c.args.prog.now f.is_state f.fits).1
