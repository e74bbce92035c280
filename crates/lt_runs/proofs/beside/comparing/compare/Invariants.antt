use Rattle.std.proofs.Common.{◌≡◌, ◌*◌, length}
use Rattle.lt_runs.proofs.beside.comparing.compare.Given as goal

abbrev pub invariant-loop-one : goal.invariant-loop-one
invariant-loop-one g l = record {
  can_next : (goal.iterator-loop-one g).can_next l.one-iterator;
  is_finite : (goal.iterator-loop-one g).is_finite l.one-iterator;
  reads : l.reads ≡ 16 * length l.yielded;
  equal : l.equal ≡ 16 * length l.yielded;
  kept : l.poster ≡ l.fn.poster;
}
