use Rattle.std.proofs.Common.{◌++◌, ◌∷◌, decimal}
use Rattle.lt_blocks.proofs.Lined.{batch_first, entries_last, programs_next}
use Rattle.lt_blocks.proofs.words.header_of.Goals as goal

pub returns-in_default-clause-none : goal.returns-in_default-clause-none
returns-in_default-clause-none c = λ h small is. c.in_default.ensures.none _ is

pub returns-in_default-take_number-clause-none : goal.returns-in_default-take_number-clause-none
returns-in_default-take_number-clause-none c = λ h small is.
    c.in_default-take_number.ensures.none h.batch (decimal h.programs ++ (32 ∷ decimal h.entries)) small.batch (batch_first h small c.args.line.now c.in-Some.first.now is c.in-Some.ensures.some)

pub returns-in_default-take_number-2-clause-none : goal.returns-in_default-take_number-2-clause-none
returns-in_default-take_number-2-clause-none c = λ h small is.
    let first = c.in-Some-take_number.ensures.some in
    c.in_default-take_number-2.ensures.none h.programs (decimal h.entries) small.programs (programs_next h small c.args.line.now c.in-Some.first.now is c.in-Some.ensures.some c.in-Some-take_number.batch c.in-Some-take_number.second.now first.1 first.0)

pub returns-in_default-number_of-clause-none : goal.returns-in_default-number_of-clause-none
returns-in_default-number_of-clause-none c = λ h small is.
    let first = c.in-Some-take_number.ensures.some in
    let second = c.in-Some-take_number-2.ensures.some in
    c.in_default-number_of.ensures.none h.entries small.entries (entries_last h small c.args.line.now c.in-Some.first.now is c.in-Some.ensures.some c.in-Some-take_number.batch c.in-Some-take_number.second.now first.1 first.0 c.in-Some-take_number-2.programs c.in-Some-take_number-2.third.now second.1 second.0)
