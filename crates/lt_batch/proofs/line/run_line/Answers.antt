use denote.Param.Send.{sendable}
use Rattle.std.proofs.Common.{◌∙◌, ◌++◌, map, length, ap, sym, subst}
use Rattle.std.specs.List.{AllByRecursion}
use Rattle.lt_face.specs.State.{State}
use Rattle.lt_model.specs.Fits.{FitMarks, IsWide}
use Rattle.lt_base.specs.Tables.{state_of}
use Rattle.lt_circuit.specs.Line.{line_event, line_state, IsLineReplay}
use Rattle.lt_circuit.specs.Row.{sizes}
use Rattle.lt_batch.specs.Line.{last_state, line_does, line_effects, line_marks, line_replies, programs_of, HasGivenFront}
use Rattle.lt_batch.specs.Work.{BatchView}
use Rattle.lt_sense.proofs.Growth.{on_err}
use Rattle.lt_batch.proofs.Crossing.{tally_send, tally_sync, work_send, work_sync}
use Rattle.lt_batch.proofs.FittingRuns.{snapshot_of}
use Rattle.lt_batch.proofs.LineInOrder.{marks_lead}
use Rattle.lt_batch.proofs.LineOpened.{by_both, over_same, replay_same}
use Rattle.lt_batch.proofs.LineRuns.{gave_all, gave_front, no_front, whole_front}
use Rattle.lt_batch.proofs.line.run_line.Goals as goal

pub settle_line-requires-clause-base : goal.settle_line-requires-clause-base
settle_line-requires-clause-base g c = λ lifetimes outlive. λ marks fit.
    c.requires.base marks (subst (λ (s : State). FitMarks s marks) c.in_ok-work.ensures.snapshot fit.0) fit.1

pub outcome_of-requires-clause-over : goal.outcome_of-requires-clause-over
outcome_of-requires-clause-over g c = over_same c.in_ok-done.ensures.work c.in_ok-done.ensures.sizes c.in_ok-work.ensures.over

pub outcome_of-requires-clause-work : goal.outcome_of-requires-clause-work
outcome_of-requires-clause-work g c = c.in_ok-done.ensures.work ∙ c.in_ok-work.ensures.work ∙ sym c.deref-2.ensures

pub outcome_of-requires-clause-leaves : goal.outcome_of-requires-clause-leaves
outcome_of-requires-clause-leaves g c = c.deref-3.ensures.value ∙ c.in_ok-leaves.ensures ∙ ap (map length) (sym (ap (λ (w : BatchView). w.batches) c.in_ok-done.ensures.work ∙ c.in_ok-work.ensures.batches))

pub returns-clause-replies : goal.returns-clause-replies
returns-clause-replies g c = c.in_ok-outcome.ensures.replies ∙ by_both line_replies (ap (λ (w : BatchView). w.batches) c.in_ok-done.ensures.work ∙ c.in_ok-work.ensures.batches) (ap (λ (w : BatchView). state_of w.snapshot) c.in_ok-done.ensures.work ∙ c.in_ok-work.ensures.snapshot)

pub returns-clause-effects : goal.returns-clause-effects
returns-clause-effects g c = c.in_ok-outcome.ensures.effects ∙ by_both line_effects (ap (λ (w : BatchView). w.batches) c.in_ok-done.ensures.work ∙ c.in_ok-work.ensures.batches) (ap (λ (w : BatchView). state_of w.snapshot) c.in_ok-done.ensures.work ∙ c.in_ok-work.ensures.snapshot)

pub returns-clause-state : goal.returns-clause-state
returns-clause-state g c = c.in_ok-outcome.ensures.state ∙ by_both last_state (ap (λ (w : BatchView). w.batches) c.in_ok-done.ensures.work ∙ c.in_ok-work.ensures.batches) (ap (λ (w : BatchView). state_of w.snapshot) c.in_ok-done.ensures.work ∙ c.in_ok-work.ensures.snapshot)

pub returns-clause-programs : goal.returns-clause-programs
returns-clause-programs g c = ap (λ (w : BatchView). w.batches) c.in_ok-outcome.ensures.work ∙ ap (λ (w : BatchView). w.batches) c.in_ok-done.ensures.work ∙ c.in_ok-work.ensures.batches

pub returns-clause-snapshot : goal.returns-clause-snapshot
returns-clause-snapshot g c = ap (λ (w : BatchView). state_of w.snapshot) c.in_ok-outcome.ensures.work ∙ ap (λ (w : BatchView). state_of w.snapshot) c.in_ok-done.ensures.work ∙ c.in_ok-work.ensures.snapshot

pub returns-clause-sizes : goal.returns-clause-sizes
returns-clause-sizes g c = c.in_ok-outcome.ensures.sizes ∙ c.in_ok-done.ensures.sizes ∙ c.in_ok-work.ensures.over.segments ∙ ap (map length) c.in_ok-work.ensures.batches

pub returns-clause-journal : goal.returns-clause-journal
returns-clause-journal g c =
    subst (λ does. IsLineReplay does c.in_ok-outcome.outcome.line.row c.in_ok-outcome.outcome.line.journal) (by_both line_does (ap (λ (w : BatchView). w.batches) c.in_ok-done.ensures.work ∙ c.in_ok-work.ensures.batches) (ap (λ (w : BatchView). state_of w.snapshot) c.in_ok-done.ensures.work ∙ c.in_ok-work.ensures.snapshot)) c.in_ok-outcome.ensures.journal

pub returns-clause-fit : goal.returns-clause-fit
returns-clause-fit g c = subst (λ (s : State). AllByRecursion (AllByRecursion (FitMarks s)) c.in_ok-outcome.outcome.effects) (ap (λ (w : BatchView). state_of w.snapshot) c.in_ok-done.ensures.work ∙ c.in_ok-work.ensures.snapshot) c.in_ok-outcome.ensures.fit

pub returns-clause-widths : goal.returns-clause-widths
returns-clause-widths g c = λ relation width wide. c.in_ok-outcome.ensures.widths relation width (subst (λ (s : State). IsWide s relation width) (sym (ap (λ (w : BatchView). state_of w.snapshot) c.in_ok-done.ensures.work ∙ c.in_ok-work.ensures.snapshot)) wide)

pub returns-clause-given : goal.returns-clause-given
returns-clause-given g c =
    gave_all c.front_is_final.ensures.serial c.in_ok-work.line.work (sizes c.in_ok-work.line.row) c.in_ok-work.ensures.over (g.O.OnFinal.given c.args.on.now) (g.O.OnFinal.given c.settle_line.new.on) (map line_event c.in_ok-done.done.journal) (line_state c.in_ok-done.done)
    (replay_same (map line_event c.in_ok-done.done.journal) (line_state c.in_ok-done.done) c.in_ok-done.ensures.work c.in_ok-done.ensures.sizes c.journal-entries.ensures.replay) c.in_ok-done.ensures.settled c.in_ok-done.ensures.given
    ∙ ap (λ ms. g.O.OnFinal.given c.args.on.now ++ ms) (by_both line_marks c.in_ok-work.ensures.batches c.in_ok-work.ensures.snapshot)

pub returns-in_err-leaves-clause-prefix : goal.returns-in_err-leaves-clause-prefix
returns-in_err-leaves-clause-prefix g c = on_err _ (no_front (g.O.OnFinal.given c.args.on.now) _)

pub returns-in_err-work-clause-prefix : goal.returns-in_err-work-clause-prefix
returns-in_err-work-clause-prefix g c = on_err _ (no_front (g.O.OnFinal.given c.args.on.now) _)

pub returns-in_err-done-clause-prefix : goal.returns-in_err-done-clause-prefix
returns-in_err-done-clause-prefix g c =
    on_err _ (subst (HasGivenFront (g.O.OnFinal.given c.args.on.now) (g.O.OnFinal.given c.settle_line.new.on)) (by_both line_marks c.in_ok-work.ensures.batches c.in_ok-work.ensures.snapshot)
    (gave_front c.front_is_final.ensures.serial c.in_ok-work.line.work (sizes c.in_ok-work.line.row) c.in_ok-work.ensures.over (g.O.OnFinal.given c.args.on.now) (g.O.OnFinal.given c.settle_line.new.on) c.settle_line.ensures.some))

pub returns-in_err-outcome-clause-prefix : goal.returns-in_err-outcome-clause-prefix
returns-in_err-outcome-clause-prefix g c =
    on_err _ (whole_front (g.O.OnFinal.given c.args.on.now) (g.O.OnFinal.given c.settle_line.new.on) _
    (gave_all c.front_is_final.ensures.serial c.in_ok-work.line.work (sizes c.in_ok-work.line.row) c.in_ok-work.ensures.over (g.O.OnFinal.given c.args.on.now) (g.O.OnFinal.given c.settle_line.new.on) (map line_event c.in_ok-done.done.journal) (line_state c.in_ok-done.done)
    (replay_same (map line_event c.in_ok-done.done.journal) (line_state c.in_ok-done.done) c.in_ok-done.ensures.work c.in_ok-done.ensures.sizes c.journal-entries.ensures.replay) c.in_ok-done.ensures.settled c.in_ok-done.ensures.given
    ∙ ap (λ ms. g.O.OnFinal.given c.args.on.now ++ ms) (by_both line_marks c.in_ok-work.ensures.batches c.in_ok-work.ensures.snapshot)))

pub returns-clause-states : goal.returns-clause-states
returns-clause-states g c = marks_lead (programs_of c.args.batches.now) (state_of c.args.db.now) (snapshot_of (state_of c.args.db.now) c.look_over.ensures.state c.look_over.ensures.wide) c.requires.fit

pub returns-in_err-leaves-clause-states : goal.returns-in_err-leaves-clause-states
returns-in_err-leaves-clause-states g c = marks_lead (programs_of c.args.batches.now) (state_of c.args.db.now) (snapshot_of (state_of c.args.db.now) c.look_over.ensures.state c.look_over.ensures.wide) c.requires.fit

pub returns-in_err-work-clause-states : goal.returns-in_err-work-clause-states
returns-in_err-work-clause-states g c = marks_lead (programs_of c.args.batches.now) (state_of c.args.db.now) (snapshot_of (state_of c.args.db.now) c.look_over.ensures.state c.look_over.ensures.wide) c.requires.fit

pub returns-in_err-done-clause-states : goal.returns-in_err-done-clause-states
returns-in_err-done-clause-states g c = marks_lead (programs_of c.args.batches.now) (state_of c.args.db.now) (snapshot_of (state_of c.args.db.now) c.look_over.ensures.state c.look_over.ensures.wide) c.requires.fit

pub returns-in_err-outcome-clause-states : goal.returns-in_err-outcome-clause-states
returns-in_err-outcome-clause-states g c = marks_lead (programs_of c.args.batches.now) (state_of c.args.db.now) (snapshot_of (state_of c.args.db.now) c.look_over.ensures.state c.look_over.ensures.wide) c.requires.fit

pub settle_line-requires-send-W : goal.settle_line-requires-send-W
settle_line-requires-send-W g c κs within = search (sendable, work_send)

pub settle_line-requires-send-W-Tally : goal.settle_line-requires-send-W-Tally
settle_line-requires-send-W-Tally g c κs within = search (sendable, tally_send)

pub settle_line-requires-sync-W : goal.settle_line-requires-sync-W
settle_line-requires-sync-W g c κs within = search (sendable, work_sync)

pub settle_line-requires-sync-W-Tally : goal.settle_line-requires-sync-W-Tally
settle_line-requires-sync-W-Tally g c κs within = search (sendable, tally_sync)
