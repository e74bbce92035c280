use Rattle.std.proofs.lemmas.Grind.{common_steps}
use Rattle.std.proofs.Common.{arith, rules}
use Rattle.lt_check.proofs.schema.Schema.declare.Goals as goal

pub returns-then-is_some-clause-taken : goal.returns-then-is_some-clause-taken
returns-then-is_some-clause-taken c = search rules

pub returns-then-is_some-clause-full : goal.returns-then-is_some-clause-full
returns-then-is_some-clause-full c = search rules

pub returns-in_err-push-clause-full : goal.returns-in_err-push-clause-full
returns-in_err-push-clause-full c = search rules

pub invariant_of-self-2 : goal.invariant_of-self-2
invariant_of-self-2 c = grind (arith, common_steps)

pub returns-clause-room : goal.returns-clause-room
returns-clause-room c = search rules

pub returns-clause-full : goal.returns-clause-full
returns-clause-full c = search rules

pub returns-in_err-push-clause-taken : goal.returns-in_err-push-clause-taken
returns-in_err-push-clause-taken c = search rules

pub returns-clause-taken : goal.returns-clause-taken
returns-clause-taken c = search rules
