use Rattle.std.proofs.Common.{rules}
use Rattle.lt_check.proofs.bound.Bound.add_test.Goals as goal

pub returns-in_ok-add-in-Sum : goal.returns-in_ok-add-in-Sum
returns-in_ok-add-in-Sum c = search rules

pub returns-in_ok-add_equal-in-Cmp : goal.returns-in_ok-add_equal-in-Cmp
returns-in_ok-add_equal-in-Cmp c = search rules
