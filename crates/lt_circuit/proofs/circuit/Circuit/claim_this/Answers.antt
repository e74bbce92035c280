use Rattle.std.proofs.Common.{rules}
use Rattle.lt_circuit.proofs.circuit.Circuit.claim_this.Goals as goal

pub take-requires-clause-pending : goal.take-requires-clause-pending
take-requires-clause-pending g c = search rules
