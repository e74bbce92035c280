use Rattle.std.proofs.Common.{◌≡◌}
use Rattle.lt_world.specs.World.{Shows}
use Rattle.lt_runs.specs.Coming.{HasRun}
use Rattle.lt_runs.proofs.beside.opened.Given as goal

abbrev pub invariant-loop-item : goal.invariant-loop-item
invariant-loop-item g l = record {
  can_next : (goal.iterator-loop-item g).can_next l.item-iterator;
  is_finite : (goal.iterator-loop-item g).is_finite l.item-iterator;
  so_far : HasRun Shows l.yielded l.world l.summary;
  programs : l.summary.programs ≡ l.programs;
}
