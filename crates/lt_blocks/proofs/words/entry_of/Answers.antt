use Rattle.std.proofs.Common.{decimal}
use Rattle.lt_blocks.proofs.Lined.{code_last}
use Rattle.lt_blocks.proofs.words.entry_of.Goals as goal

pub returns-in_default-clause-none : goal.returns-in_default-clause-none
returns-in_default-clause-none c = λ e small is. c.in_default.ensures.none e.worker (decimal e.code) small.worker is

pub returns-in_default-number_of-clause-none : goal.returns-in_default-number_of-clause-none
returns-in_default-number_of-clause-none c = λ e small is.
    let first = c.in-Some.ensures.some in
    c.in_default-number_of.ensures.none e.code small.code (code_last e small c.args.line.now is c.in-Some.worker c.in-Some.rest.now first.1 first.0)
