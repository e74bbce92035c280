use Rattle.std.proofs.Common.{rules}
use Rattle.lt_program.proofs.tally.is_refusal.Goals as goal

pub returns-in-Refused : goal.returns-in-Refused
returns-in-Refused c = search rules
