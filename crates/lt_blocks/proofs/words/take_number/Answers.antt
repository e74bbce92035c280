use Rattle.lt_blocks.proofs.Numbers.{no_space, word_is}
use Rattle.lt_blocks.proofs.words.take_number.Goals as goal

pub returns-in_default-clause-none : goal.returns-in_default-clause-none
returns-in_default-clause-none c = λ number rest small is. no_space number c.args.line.now rest c.in_default.ensures.none is

pub returns-in_default-number_of-clause-none : goal.returns-in_default-number_of-clause-none
returns-in_default-number_of-clause-none c = λ number rest small is.
    let cut = c.in-Some.ensures.some in
    c.in_default-number_of.ensures.none number small (word_is c.in-Some.word.now c.in-Some.rest.now c.args.line.now number rest cut.0 cut.1 small is)
