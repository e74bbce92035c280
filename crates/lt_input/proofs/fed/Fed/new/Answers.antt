use Rattle.std.proofs.Common.{[]}
use Rattle.lt_input.proofs.fed.Fed.new.Goals as goal

pub invariant_of-result : goal.invariant_of-result
invariant_of-result c = (record { bytes = []; items = []; fed = c.new.ensures.fed }, c.new.ensures.«open»)
