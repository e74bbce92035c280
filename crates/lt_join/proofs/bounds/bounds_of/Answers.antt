use Rattle.lt_join.proofs.BoundLaws.{are_bounds, first_bound, last_bound}
use Rattle.lt_join.proofs.bounds.bounds_of.Goals as goal

pub returns-clause-bounds : goal.returns-clause-bounds
returns-clause-bounds g c = are_bounds c.in_ok-bounds.bounds.items c.push.new.self.items c.in_ok-push.ensures.items c.in_ok-bounds.ensures.rising c.in_ok-bounds.ensures.low c.in_ok-bounds.ensures.first.0

pub returns-clause-first : goal.returns-clause-first
returns-clause-first g c = first_bound c.in_ok-bounds.bounds.items c.push.new.self.items c.in_ok-push.ensures.items c.in_ok-bounds.ensures.first.0 c.in_ok-bounds.ensures.first.1

pub returns-clause-last : goal.returns-clause-last
returns-clause-last g c = last_bound c.in_ok-bounds.bounds.items c.push.new.self.items c.in_ok-push.ensures.items
