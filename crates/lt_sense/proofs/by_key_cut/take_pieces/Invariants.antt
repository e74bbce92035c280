use Rattle.std.proofs.Common.{◌-◌, ◌≤◌, []}
use Rattle.lt_sense.specs.ByKeyTold.{HaveBut}
use Rattle.lt_sense.specs.Spans.{IsOfSame, IsSpans, ranges_of, under}
use Rattle.lt_sense.proofs.by_key_cut.take_pieces.Given as goal

abbrev pub invariant-pieces : goal.invariant-pieces
invariant-pieces l = record {
  sound : IsSpans l.list;
  same : IsOfSame l.fn.list l.list;
  low : l.lo ≤ l.from;
  high : l.from ≤ l.hi;
  added : HaveBut l.keys (ranges_of l.fn.list) (ranges_of l.list) (under l.other [] l.lo l.from);
}

abbrev pub decreases-pieces : goal.decreases-pieces
decreases-pieces l = l.hi - l.from
