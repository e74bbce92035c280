use Rattle.std.specs.List.{AllByRecursion}
use Rattle.lt_sense.specs.Sense.{gap_covers}
use Rattle.lt_sense.specs.Apart.{range_cmp, stills_in, IsApart, IsKeptSpan}
use Rattle.lt_sense.proofs.Joined.{IsUniting}
use Rattle.lt_sense.proofs.spans.Spans.united.Given as goal

abbrev pub invariant-loop-at : goal.invariant-loop-at
invariant-loop-at l = record {
  kept : AllByRecursion (IsKeptSpan l.self) l.out.items;
  uniting : IsUniting range_cmp IsApart gap_covers (stills_in l.self l.all) (stills_in l.self l.out.items) l.at;
}
