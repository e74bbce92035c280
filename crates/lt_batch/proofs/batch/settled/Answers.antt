use denote.Param.Send.{sendable}
use Rattle.std.proofs.Common.{◌∙◌, List, length, map, rules, ap, sym, subst, arith}
use Rattle.std.proofs.lemmas.List.{length-map}
use Rattle.std.specs.Arc.{arc_value}
use Rattle.lt_model.specs.declared.normal.Stmt.{Stmt}
use Rattle.lt_base.specs.Tables.{Table, state_of}
use Rattle.lt_circuit.specs.Circuit.{IsReplay}
use Rattle.lt_batch.specs.Work.{BatchView, IsLeaf, AreRunnable}
use Rattle.lt_batch.proofs.Crossing.{tally_send, tally_sync, work_send, work_sync}
use Rattle.lt_batch.proofs.Leaves.{does_alone, same_leaf}
use Rattle.lt_batch.proofs.batch.settled.Goals as goal

pub start-requires-clause-has : goal.start-requires-clause-has
start-requires-clause-has g c = λ i below.
    subst (λ (work : BatchView). IsLeaf work i) (sym (c.in_ok-clone.ensures.cases ∙ c.in_ok-work-3.ensures.ok))
    (same_leaf c.in_ok-work-2.work c.in_ok-work.work i c.in_ok-work-2.ensures.batches c.in_ok-work-2.ensures.snapshot (c.in_ok-work.ensures.leaves i (omega arith)))

pub returns-clause-work : goal.returns-clause-work
returns-clause-work g c = c.in_ok-circuit-2.ensures.work ∙ c.in_ok-circuit.ensures.work ∙ c.in_ok-clone.ensures.cases

pub returns-clause-programs : goal.returns-clause-programs
returns-clause-programs g c =
    ap (λ (work : BatchView). work.programs) (c.in_ok-circuit-2.ensures.work ∙ c.in_ok-circuit.ensures.work ∙ c.in_ok-clone.ensures.cases ∙ c.in_ok-work-3.ensures.ok)
    ∙ (c.in_ok-work-2.ensures.programs ∙ c.in_ok-work.ensures.programs)

pub returns-clause-batches : goal.returns-clause-batches
returns-clause-batches g c =
    ap (λ (work : BatchView). work.batches) (c.in_ok-circuit-2.ensures.work ∙ c.in_ok-circuit.ensures.work ∙ c.in_ok-clone.ensures.cases ∙ c.in_ok-work-3.ensures.ok)
    ∙ (c.in_ok-work-2.ensures.batches ∙ c.in_ok-work.ensures.batches)

pub returns-clause-snapshot : goal.returns-clause-snapshot
returns-clause-snapshot g c =
    ap (λ (work : BatchView). state_of work.snapshot) (c.in_ok-circuit-2.ensures.work ∙ c.in_ok-circuit.ensures.work ∙ c.in_ok-clone.ensures.cases ∙ c.in_ok-work-3.ensures.ok)
    ∙ (ap state_of c.in_ok-work-2.ensures.snapshot ∙ c.in_ok-work.ensures.snapshot)

pub returns-clause-runnable : goal.returns-clause-runnable
returns-clause-runnable g c =
    subst (λ (work : BatchView). AreRunnable (state_of work.snapshot) work.programs) (sym (c.in_ok-circuit-2.ensures.work ∙ c.in_ok-circuit.ensures.work ∙ c.in_ok-clone.ensures.cases ∙ c.in_ok-work-3.ensures.ok))
    (subst (λ (ps : List (List Stmt)). AreRunnable (state_of c.in_ok-work-2.work.snapshot) ps) (sym c.in_ok-work-2.ensures.programs)
    (subst (λ (tables : List Table). AreRunnable (state_of tables) c.in_ok-work.work.programs) (sym c.in_ok-work-2.ensures.snapshot) c.in_ok-work.ensures.runnable))

pub returns-clause-journal : goal.returns-clause-journal
returns-clause-journal g c =
    subst (λ does. IsReplay does c.in_ok-circuit-2.circuit.board c.in_ok-circuit-2.circuit.journal)
    (does_alone c.in_ok-circuit-2.circuit.work (state_of c.args.db.now) (map arc_value c.args.progs.now) (returns-clause-snapshot g c) (returns-clause-batches g c) (omega (arith, c.requires.few, length-map c.args.progs.now arc_value)))
    c.journal-entries.ensures.replay

pub returns-clause-leaves : goal.returns-clause-leaves
returns-clause-leaves g c = search rules

pub settle-requires-send-W : goal.settle-requires-send-W
settle-requires-send-W g c κs within = search (sendable, work_send)

pub settle-requires-send-W-Tally : goal.settle-requires-send-W-Tally
settle-requires-send-W-Tally g c κs within = search (sendable, tally_send)

pub settle-requires-sync-W : goal.settle-requires-sync-W
settle-requires-sync-W g c κs within = search (sendable, work_sync)

pub settle-requires-sync-W-Tally : goal.settle-requires-sync-W-Tally
settle-requires-sync-W-Tally g c κs within = search (sendable, tally_sync)
