use Rattle.lt_world.proofs.Telling.{HasTold}
use Rattle.lt_world.proofs.batch.put_programs.Given as goal

abbrev pub invariant-loop-i : goal.invariant-loop-i
invariant-loop-i g l = HasTold l.marks l.headings l.programs l.judgements l.replies l.effects (g.K.Sink.holds l.fn.sink) (g.K.Sink.holds l.sink) (g.K.Sink.faults l.fn.sink) (g.K.Sink.faults l.sink) l.i l.next
