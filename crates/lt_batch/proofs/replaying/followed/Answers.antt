use Rattle.std.proofs.Common.{◌≡◌, ◌∙◌, ℕ, map, length, ap, sym, subst, arith}
use Rattle.std.specs.Arc.{arc_value}
use Rattle.std.proofs.lemmas.List.{length-map}
use Rattle.std.proofs.lemmas.Result.{err_from_is_err_and}
use Rattle.lt_base.specs.Tables.{state_of}
use Rattle.lt_net.specs.Net.{Net}
use Rattle.lt_circuit.specs.Circuit.{IsReplay, state}
use Rattle.lt_circuit.specs.Shape.{Shape, shape, shape_net}
use Rattle.lt_batch.specs.Replaying.{IsFault, LeadTo, batch_net}
use Rattle.lt_batch.specs.Work.{AreRunnable, BatchView, batch_does}
use Rattle.lt_batch.specs.declared.replaying.ReplayFault.{ReplayFault}
use Rattle.lt_batch.specs.declared.replaying.ReplayFault.TheVariants.{Entry as EntryFault}
use Rattle.lt_batch.proofs.Following.{fails, faultless, moved_fault, no_entry}
use Rattle.lt_batch.proofs.Leaves.{does_alone}
use Rattle.lt_batch.proofs.Machine.{machine}
use Rattle.lt_batch.proofs.replaying.followed.Goals as goal

pub returns-clause-work : goal.returns-clause-work
returns-clause-work g c = ap (λ (k : Shape BatchView). k.work) c.in_ok-follow.ensures.same ∙ c.in_ok-opened.ensures.work

pub returns-clause-programs : goal.returns-clause-programs
returns-clause-programs g c = ap (λ (k : Shape BatchView). k.work.programs) c.in_ok-follow.ensures.same ∙ c.in_ok-opened.ensures.programs

pub returns-clause-batches : goal.returns-clause-batches
returns-clause-batches g c = ap (λ (k : Shape BatchView). k.work.batches) c.in_ok-follow.ensures.same ∙ c.in_ok-opened.ensures.batches

pub returns-clause-snapshot : goal.returns-clause-snapshot
returns-clause-snapshot g c = ap (λ (k : Shape BatchView). state_of k.work.snapshot) c.in_ok-follow.ensures.same ∙ c.in_ok-opened.ensures.snapshot

pub returns-clause-runnable : goal.returns-clause-runnable
returns-clause-runnable g c = subst (λ (k : Shape BatchView). AreRunnable (state_of k.work.snapshot) k.work.programs) (sym c.in_ok-follow.ensures.same) c.in_ok-opened.ensures.runnable

pub returns-clause-leaves : goal.returns-clause-leaves
returns-clause-leaves g c = ap (λ (k : Shape BatchView). k.leaves) c.in_ok-follow.ensures.same ∙ c.in_ok-opened.ensures.leaves

pub returns-clause-journal : goal.returns-clause-journal
returns-clause-journal g c =
    subst (λ does. IsReplay does c.follow.new.circuit.board c.follow.new.circuit.journal)
    (does_alone c.follow.new.circuit.work (state_of c.args.db.now) (map arc_value c.args.progs.now) (returns-clause-snapshot g c) (returns-clause-batches g c) (omega (arith, c.requires.few, length-map c.args.progs.now arc_value)))
    c.journal-entries.ensures.replay

pub returns-clause-faultless : goal.returns-clause-faultless
returns-clause-faultless g c =
    let programs = map arc_value c.args.progs.now in
    let is = machine c.in_ok-opened.opened.1 (state_of c.args.db.now) programs c.in_ok-opened.ensures.snapshot c.in_ok-opened.ensures.batches (omega (arith, c.requires.few, length-map c.args.progs.now arc_value))
    (c.in_ok-opened.ensures.leaves ∙ sym (length-map c.args.progs.now arc_value)) in
    faultless (batch_net programs (state_of c.args.db.now)) c.args.entries.now (state c.follow.new.circuit)
    (subst (λ (net : Net). LeadTo net c.args.entries.now (state c.follow.new.circuit)) is c.in_ok-follow.ensures.legal) c.in_ok-follow.ensures.settled

pub returns-in_err-follow-clause-fault : goal.returns-in_err-follow-clause-fault
returns-in_err-follow-clause-fault g c =
    let programs = map arc_value c.args.progs.now in
    let entries = c.args.entries.now in
    let own = shape_net (shape batch_does c.in_ok-opened.opened.1) in
    let net = batch_net programs (state_of c.args.db.now) in
    let is = machine c.in_ok-opened.opened.1 (state_of c.args.db.now) programs c.in_ok-opened.ensures.snapshot c.in_ok-opened.ensures.batches (omega (arith, c.requires.few, length-map c.args.progs.now arc_value))
    (c.in_ok-opened.ensures.leaves ∙ sym (length-map c.args.progs.now arc_value)) in
    let p = err_from_is_err_and c.from_residual-in_err-follow.result c.from_residual-in_err-follow.ensures.1 in
    let same : c.in_err-follow.field-0.0 ≡ p.0 = cc in
    fails net entries c.from_residual-in_err-follow.result p.0 p.1
    (moved_fault own net entries p.0 is (subst (λ (f : ReplayFault). (e : ℕ) → f ≡ EntryFault e → IsFault own entries e) same c.in_err-follow.ensures.fault))

pub returns-in_err-opened-clause-fault : goal.returns-in_err-opened-clause-fault
returns-in_err-opened-clause-fault g c =
    let net = batch_net (map arc_value c.args.progs.now) (state_of c.args.db.now) in
    let p = err_from_is_err_and c.from_residual.result c.from_residual.ensures.1 in
    fails net c.args.entries.now c.from_residual.result p.0 p.1 (no_entry net c.args.entries.now p.0 p.2)
