use Rattle.std.proofs.Common.{◌≡◌, ◌+◌, List, refl, ap, ◌∙◌, [], sym, arith, subst}
use Rattle.std.proofs.lemmas.List.{drop_all}
use Rattle.lt_face.specs.State.{Row, State}
use Rattle.lt_model.specs.Effect as model
use Rattle.lt_model.specs.Marks.{Marks, AreMarks, laid}
use Rattle.lt_model.specs.Run.{run, run_from}
use Rattle.lt_model.specs.declared.normal.Stmt.{Stmt}
use Rattle.lt_model.specs.declared.reply.Printed.{Printed}
use Rattle.lt_model.specs.declared.reply.Reply.TheVariants.{Done, Refused}
use Rattle.lt_model.specs.declared.reply.Reply.{Reply}
use Rattle.lt_program.specs.Effect.{view}
use Rattle.lt_reference.specs.Run.{Follows, so_far}
use Rattle.lt_reference.specs.Walk.{bare}
use Rattle.lt_reference.specs.declared.progress.Progress.{Progress}
use Rattle.lt_reference.proofs.RunSteps.{rest_step, lays_step, ascending_step, rises_step, cells_step, refused_step}
use Rattle.lt_reference.proofs.plain.run_on.Goals.{After-loop-i, Then-not-met}
use Rattle.lt_reference.proofs.plain.run_on.Goals as goal

pub loop-i-preserved : goal.loop-i-preserved
loop-i-preserved c =
    let base : State = bare c.args.relations.items in
    let p : Progress = record { relations = c.loop-i.progress.relations; marks = c.loop-i.progress.marks; prints = c.loop-i.progress.prints } in
    let told = c.in_ok-met.ensures in
    let follows : Follows (c.loop-i.i + 1) c.in_ok-effect.effect p c.accept.new.self = rw c.if-not-met.false at told in
    let seen : view c.in_ok-effect.effect ≡ model.effect c.index-prog-i.result (bare c.loop-i.progress.relations.items) = c.in_ok-effect.ensures.effect ∙ ap (λ (rows : List (List Row)). model.effect c.index-prog-i.result (bare rows)) c.deref.ensures.value in
    record {
      rest = rest_step base (c.loop-i.i + 1) c.in_ok-effect.effect p c.accept.new.self follows c.loop-i.invariant.lays c.loop-i.invariant.ascending c.args.prog.now c.loop-i.i c.index-prog-i.result _ refl c.loop-i-test.true c.index-prog-i.is seen c.loop-i.invariant.rest;
      lays = lays_step base (c.loop-i.i + 1) c.in_ok-effect.effect p c.accept.new.self follows c.loop-i.invariant.lays c.loop-i.invariant.ascending c.requires.rises;
      ascending = ascending_step base (c.loop-i.i + 1) c.in_ok-effect.effect p c.accept.new.self follows c.loop-i.invariant.lays c.loop-i.invariant.ascending;
      rises = rises_step base (c.loop-i.i + 1) c.in_ok-effect.effect p c.accept.new.self follows c.loop-i.invariant.lays c.loop-i.invariant.ascending c.loop-i.invariant.rises;
      cells = cells_step base (c.loop-i.i + 1) c.in_ok-effect.effect p c.accept.new.self follows c.loop-i.invariant.lays c.loop-i.invariant.ascending c.in_ok-effect.ensures.cells c.loop-i.invariant.cells;
    }

whole : (c : After-loop-i) → (Done c.loop-i.progress.prints, c.loop-i.progress.marks) ≡ run c.args.prog.now (bare c.args.relations.items)
whole c =
    let p : Progress = record { relations = c.loop-i.progress.relations; marks = c.loop-i.progress.marks; prints = c.loop-i.progress.prints } in
    ap (λ (stmts : List Stmt). run_from (c.loop-i.i + 1) stmts (bare c.args.relations.items) (so_far p)) (sym (drop_all c.loop-i.i c.args.prog.now (omega (arith, c.loop-i-test.false)))) ∙ c.loop-i.invariant.rest

pub returns-clause-reply : goal.returns-clause-reply
returns-clause-reply c = ap (λ (out : Reply × Marks). out.0) (whole (goal.at.returns-clause-reply c).After-loop-i)

pub returns-clause-marks : goal.returns-clause-marks
returns-clause-marks c = ap (λ (out : Reply × Marks). out.1) (whole (goal.at.returns-clause-marks c).After-loop-i)

refused : (c : Then-not-met) → (Refused (c.loop-i.i + 1), []) ≡ run c.args.prog.now (bare c.args.relations.items)
refused c =
    let p : Progress = record { relations = c.loop-i.progress.relations; marks = c.loop-i.progress.marks; prints = c.loop-i.progress.prints } in
    let told = c.in_ok-met.ensures in
    let seen : view c.in_ok-effect.effect ≡ model.effect c.index-prog-i.result (bare c.loop-i.progress.relations.items) = c.in_ok-effect.ensures.effect ∙ ap (λ (rows : List (List Row)). model.effect c.index-prog-i.result (bare rows)) c.deref.ensures.value in
    refused_step (bare c.args.relations.items) c.in_ok-effect.effect p c.args.prog.now c.loop-i.i c.index-prog-i.result _ c.loop-i.invariant.lays (rw c.if-not-met.true at told) c.loop-i-test.true c.index-prog-i.is seen c.loop-i.invariant.rest

pub returns-then-not-met-clause-reply : goal.returns-then-not-met-clause-reply
returns-then-not-met-clause-reply c = ap (λ (out : Reply × Marks). out.0) (refused (goal.at.returns-then-not-met-clause-reply c).Then-not-met)

pub returns-then-not-met-clause-marks : goal.returns-then-not-met-clause-marks
returns-then-not-met-clause-marks c = c.in_ok-none.ensures ∙ ap (λ (out : Reply × Marks). out.1) (refused (goal.at.returns-then-not-met-clause-marks c).Then-not-met)

pub loop-i-init : goal.loop-i-init
loop-i-init c =
    let base : State = bare c.args.relations.items in
    record {
      rest = ap (λ (marks : Marks). run_from 1 c.args.prog.now base (record { marks = marks; prints = c.new.result })) c.in_ok-empty.ensures ∙ ap (λ (prints : List Printed). run_from 1 c.args.prog.now base (record { marks = []; prints = prints })) c.new.ensures;
      lays = ap (laid base) (sym c.in_ok-empty.ensures);
      ascending = subst AreMarks (sym c.in_ok-empty.ensures) tt;
      rises = c.requires.rises;
      cells = c.requires.cells;
    }
