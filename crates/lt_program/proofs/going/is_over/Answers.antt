use Rattle.std.proofs.Common.{rules}
use Rattle.lt_program.proofs.going.is_over.Goals as goal

pub returns-else-is_refusal : goal.returns-else-is_refusal
returns-else-is_refusal c = search rules
