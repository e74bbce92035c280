use Rattle.std.proofs.Common.{◌≡◌, map}
use Rattle.lt_leap.specs.Potential.{moves_left}
use Rattle.lt_leap.proofs.Searched.{Searching}
use Rattle.lt_leap.proofs.ring.search.Given as goal

abbrev pub invariant-loop-least : goal.invariant-loop-least
invariant-loop-least g l =
    let K = g.I.KeyIter.keys in
    let H = g.I.KeyIter.here in
    let kept = g.N.Notes.kept in
    record {
      keys : map K l.iters.items ≡ map K l.fn.iters.items;
      still : map g.I.KeyIter.still l.iters.items ≡ map g.I.KeyIter.still l.fn.iters.items;
      state : Searching (map K l.fn.iters.items) (map H l.fn.iters.items) l.fn.ring.items l.fn.moves (kept l.fn.notes) l.last (map H l.iters.items) l.ring.items l.moves (kept l.notes) l.least l.greatest;
    }

-- how many moves can still come, by the first iterator's keys
abbrev pub decreases-loop-least : goal.decreases-loop-least
decreases-loop-least g l = moves_left (map g.I.KeyIter.keys l.iters.items) (map g.I.KeyIter.here l.iters.items) l.ring.items 0
