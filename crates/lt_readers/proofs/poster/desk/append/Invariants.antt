use Rattle.std.proofs.Common.{◌≡◌, drop}
use Rattle.lt_readers.proofs.poster.desk.append.Given as goal

abbrev pub invariant-loop : goal.invariant-loop
invariant-loop g l =
    (goal.iterator-loop g).can_next l.iterator' × (goal.iterator-loop g).is_finite l.iterator'
    × (l.desk.desk ≡ l.initial.desk.desk)
    × (drop l.desk.behind l.desk.log.items ≡ drop l.initial.desk.behind l.initial.desk.log.items)
    × (l.front ≡ l.initial.front)
