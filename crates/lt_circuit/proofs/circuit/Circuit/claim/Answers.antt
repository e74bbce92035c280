use Rattle.std.proofs.Common.{ap, arith}
use Rattle.lt_net.specs.Codes.{code_of}
use Rattle.lt_circuit.proofs.circuit.Circuit.claim.Goals as goal

pub returns-in-Ok-clause-coded : goal.returns-in-Ok-clause-coded
returns-in-Ok-clause-coded g c = omega (arith, ap code_of c.in-Ok.ensures.name, c.in-Some.ensures.small)
