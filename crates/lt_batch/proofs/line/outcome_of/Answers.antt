use Rattle.std.proofs.Common.{◌∙◌, refl, ap, get_or, length, map, sym, arith, [], List}
use Rattle.std.proofs.lemmas.List.{length-map}
use Rattle.lt_model.specs.Marks.{Marks}
use Rattle.lt_base.specs.Tables.{state_of}
use Rattle.lt_circuit.specs.Line.{line_event}
use Rattle.lt_circuit.specs.Row.{sizes}
use Rattle.lt_batch.specs.Line.{last_state}
use Rattle.lt_batch.specs.Work.{BatchView}
use Rattle.lt_batch.proofs.LineLists.{taken_batches}
use Rattle.lt_batch.proofs.LineOpened.{segment_below}
use Rattle.lt_batch.proofs.LineRuns.{before_in, before_is, leaf_was, run_settled}
use Rattle.lt_batch.proofs.Widths.{wide_laid}
use Rattle.lt_batch.proofs.line.outcome_of.Goals as goal

pub gathered_line-requires-clause-line : goal.gathered_line-requires-clause-line
gathered_line-requires-clause-line c = run_settled c.front_is_final.ensures.serial c.args.line c.requires.over (map line_event c.args.line.journal) c.journal-entries.ensures.replay c.requires.settled

pub left_by_line-requires-clause-line : goal.left_by_line-requires-clause-line
left_by_line-requires-clause-line c = run_settled c.front_is_final.ensures.serial c.args.line c.requires.over (map line_event c.args.line.journal) c.journal-entries.ensures.replay c.requires.settled

pub left_by_line-requires-clause-segments : goal.left_by_line-requires-clause-segments
left_by_line-requires-clause-segments c = omega (arith, ap length c.requires.leaves, length-map c.args.line.work.batches length)

pub left_by_line-requires-clause-snapshot : goal.left_by_line-requires-clause-snapshot
left_by_line-requires-clause-snapshot c = c.snapshot.ensures ∙ ap (λ (w : BatchView). w.snapshot) (sym c.requires.work)

pub returns-clause-state : goal.returns-clause-state
returns-clause-state c = c.in_ok-db.ensures ∙ ap (λ bs. last_state bs (state_of c.args.line.work.snapshot)) (taken_batches c.args.line.work.batches)

pub returns-clause-leaves : goal.returns-clause-leaves
returns-clause-leaves c = λ s i inside.
    let h = run_settled c.front_is_final.ensures.serial c.args.line c.requires.over (map line_event c.args.line.journal) c.journal-entries.ensures.replay c.requires.settled in
    leaf_was c.args.line _ h s i (segment_below c.args.line.work (sizes c.args.line.row) s i c.requires.over inside) inside ∙ ap (λ (ess : List (List Marks)). get_or (get_or ess s []) i []) (sym c.in_ok-replies.ensures.effects)

pub returns-clause-widths : goal.returns-clause-widths
returns-clause-widths c =
    let h = run_settled c.front_is_final.ensures.serial c.args.line c.requires.over (map line_event c.args.line.journal) c.journal-entries.ensures.replay c.requires.settled in
    wide_laid (state_of c.args.line.work.snapshot) (state_of c.args.line.work.snapshot) (state_of c.in_ok-db.db) (before_in c.args.line (length c.args.line.work.batches)) refl
    (c.in_ok-db.ensures ∙ (before_is c.args.line _ h (length c.args.line.work.batches) (omega arith)).state)
