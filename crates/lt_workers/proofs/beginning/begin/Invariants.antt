use Rattle.lt_workers.specs.Alone.{WentAlone}
use Rattle.lt_workers.proofs.beginning.begin.Given as goal

abbrev pub invariant-loop : goal.invariant-loop
invariant-loop g l = WentAlone g.M.Machine.net (g.M.Machine.stand l.initial.machine) (g.M.Machine.stand l.machine)
