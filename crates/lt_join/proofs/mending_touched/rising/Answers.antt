use Rattle.std.proofs.Common.{sym, subst}
use Rattle.lt_query.specs.Lists.{IsRising}
use Rattle.lt_join.specs.MendedKeys.{HaveSame}
use Rattle.lt_join.proofs.MendKeys.{sorted_rises, sorted_same}
use Rattle.lt_join.proofs.mending_touched.rising.Goals as goal

pub returns-clause-ascending : goal.returns-clause-ascending
returns-clause-ascending c = subst IsRising (sym c.from_vec.ensures) (sorted_rises c.sort.new.self.items c.dedup.new.self.items c.in_ok-sort.ensures.sorted c.dedup.ensures.filtered)

pub returns-clause-same : goal.returns-clause-same
returns-clause-same c = subst (HaveSame c.args.keys.items) (sym c.from_vec.ensures) (sorted_same c.args.keys.items c.sort.new.self.items c.dedup.new.self.items c.in_ok-sort.ensures.permutation c.dedup.ensures.filtered)
