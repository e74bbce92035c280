use Rattle.std.proofs.Common.{◌<◌, ◌^◌, length, get_or, sym, subst}
use Rattle.lt_net.specs.declared.job.JobName.TheVariants.{Leaf}
use Rattle.lt_circuit.specs.Circuit.{state}
use Rattle.lt_circuit.specs.Entry.{entry_code}
use Rattle.lt_circuit.specs.declared.entry.Entry.{Entry}
use Rattle.lt_circuit.specs.declared.entry.Event.TheVariants.{Claim}
use Rattle.lt_batch.proofs.JobsInside.{entry_small}
use Rattle.lt_batch.proofs.replaying.write_down.Goals as goal

pub code-requires : goal.code-requires
code-requires g c =
    let none : Entry = record { worker = 0; job = Leaf 0; event = Claim } in
    let entries = c.journal-journal.ensures.entries in
    subst (λ es. entry_code (get_or es c.loop-i.i none) < 2 ^ 32) (sym entries)
    (entry_small (g.W.LeafWork.does c.args.circuit.now.work) c.args.circuit.now.board.leaves c.args.circuit.now.journal (state c.args.circuit.now) c.journal-journal.ensures.replay
    c.requires c.loop-i.i (subst (λ es. c.loop-i.i < length es) entries c.loop-i-test.true) none)
