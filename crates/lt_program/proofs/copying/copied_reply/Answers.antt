use Rattle.std.proofs.Common.{rules}
use Rattle.lt_program.proofs.copying.copied_reply.Goals as goal

pub returns-in-Refused : goal.returns-in-Refused
returns-in-Refused c = search rules
