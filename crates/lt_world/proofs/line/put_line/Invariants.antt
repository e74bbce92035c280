use Rattle.lt_world.proofs.LineTelling.{HasTold}
use Rattle.lt_world.proofs.line.put_line.Given as goal

abbrev pub invariant-loop-i : goal.invariant-loop-i
invariant-loop-i g l = HasTold l.marks l.headings l.ran.number l.batches l.judgements l.replies l.effects (g.K.Sink.holds l.fn.sink) (g.K.Sink.holds l.sink) (g.K.Sink.faults l.fn.sink) (g.K.Sink.faults l.sink) l.i
