use Rattle.lt_program.proofs.KeptSlices.{both_here, plain_sliced}
use Rattle.lt_program.proofs.slicing.outcome_by.Goals as goal

pub returns-in_ok-both-in-Replace : goal.returns-in_ok-both-in-Replace
returns-in_ok-both-in-Replace c = λ state has.
    both_here c.args.stmt.now c.in-Replace.gone c.in-Replace.come c.in-Replace.keys c.in-Replace.body state c.args.rows c.in_ok-both-in-Replace.both.0 c.in_ok-both-in-Replace.both.1 c.len.result c.in-Replace.is
    (plain_sliced c.args.stmt.now c.in-Replace.gone c.in-Replace.come c.in-Replace.keys c.in-Replace.body c.in-Replace.is c.requires.sliced) c.len.ensures
    c.in_ok-both-in-Replace.ensures.first c.in_ok-both-in-Replace.ensures.second has
