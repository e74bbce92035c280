use Rattle.std.proofs.Common.{rules}
use Rattle.lt_values.proofs.sums.difference.Goals as goal

pub returns-then-u-t-clause-value : goal.returns-then-u-t-clause-value
returns-then-u-t-clause-value c = search rules

pub returns-then-u-t-clause-in_range : goal.returns-then-u-t-clause-in_range
returns-then-u-t-clause-in_range c = search rules

pub returns-then-u-t-clause-int : goal.returns-then-u-t-clause-int
returns-then-u-t-clause-int c = search rules

pub returns-else-u-t-clause-value : goal.returns-else-u-t-clause-value
returns-else-u-t-clause-value c = search rules

pub returns-else-u-t-clause-in_range : goal.returns-else-u-t-clause-in_range
returns-else-u-t-clause-in_range c = search rules

pub returns-else-u-t-clause-int : goal.returns-else-u-t-clause-int
returns-else-u-t-clause-int c = search rules
