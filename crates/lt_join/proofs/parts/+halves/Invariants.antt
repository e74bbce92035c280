use Rattle.std.proofs.Common.{◌-◌, ◌+◌, ◌*◌}
use Rattle.lt_join.proofs.parts.+halves.Given as goal

-- how many calls so many parts take at most, by halves: each has its own, one that halves, and that of a thread
abbrev pub decreases-find_parts : goal.decreases-find_parts
decreases-find_parts g l = 3 * (l.end - l.first)

abbrev pub decreases-join+arg2 : goal.decreases-join+arg2
decreases-join+arg2 g l = 3 * (l.middle - l.first) + 1

abbrev pub decreases-join+arg3 : goal.decreases-join+arg3
decreases-join+arg3 g l = 3 * (l.end - l.middle) + 1
