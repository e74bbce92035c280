use Rattle.std.proofs.Common.{ap}
use Rattle.lt_workers.specs.declared.basis.Basis.{Basis}
use Rattle.lt_workers.proofs.settling.begun.Goals as goal

pub returns-clause-work : goal.returns-clause-work
returns-clause-work g c = ap (λ (b : Basis _). b.work) c.begin.ensures.went.basis

pub returns-clause-leaves : goal.returns-clause-leaves
returns-clause-leaves g c = ap (λ (b : Basis _). b.leaves) c.begin.ensures.went.basis
