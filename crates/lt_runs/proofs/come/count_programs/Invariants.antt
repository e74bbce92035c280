use Rattle.lt_runs.proofs.Counting.{HasCounted}
use Rattle.lt_runs.proofs.come.count_programs.Given as goal

abbrev pub invariant-loop-i : goal.invariant-loop-i
invariant-loop-i l = HasCounted l.programs l.judgements l.replies l.fn.summary l.summary l.i l.next
