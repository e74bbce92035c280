use Rattle.std.proofs.Common.{arith}
use Rattle.lt_circuit.proofs.Standing.{at_most_all}
use Rattle.lt_circuit.proofs.holders.Holders.count.Goals as goal

pub returns-clause-few : goal.returns-clause-few
returns-clause-few c = omega (arith, at_most_all c.self.inside.claims.items, c.self.invariant.counted, c.self.invariant.workers)
