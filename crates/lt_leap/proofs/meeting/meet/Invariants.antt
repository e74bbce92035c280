use Rattle.std.proofs.Common.{◌≡◌, ℕ, length, map, slice_get}
use Rattle.lt_face.specs.Lists.{IsIn}
use Rattle.lt_leap.specs.Places.{heres_at, lists_at, turned}
use Rattle.lt_leap.specs.Potential.{moves_left}
use Rattle.lt_leap.proofs.Meets.{Meets}
use Rattle.lt_leap.proofs.meeting.meet.Given as goal

abbrev pub invariant-loop-least : goal.invariant-loop-least
invariant-loop-least g l =
    let K = g.I.KeyIter.keys in
    let H = g.I.KeyIter.here in
    let S = g.I.KeyIter.still in
    record {
      keys : map K l.iters ≡ map K l.fn.iters;
      still : map S l.iters ≡ map S l.fn.iters;
      others : (i : ℕ) → (IsIn i l.fn.places → ⊥) → slice_get l.iters i ≡ slice_get l.fn.iters i;
      state : Meets g.P.Passing.takes (map S l.fn.iters) (map K l.fn.iters) l.fn.places (map H l.fn.iters) l.fn.turn l.fn.passing l.fn.moves (map H l.iters) l.turn l.passing l.moves l.least l.greatest;
    }

-- how many moves can still come, by the first iterator's keys
abbrev pub decreases-loop-least : goal.decreases-loop-least
decreases-loop-least g l = moves_left (lists_at (map g.I.KeyIter.keys l.iters) l.places) (heres_at (map g.I.KeyIter.here l.iters) l.places) (turned (length l.places) l.turn) 0
