use Rattle.std.proofs.Common.{length}
use Rattle.std.specs.List.{AllByRecursion}
use Rattle.lt_sense.specs.Gathered.{ranges_in}
use Rattle.lt_sense.specs.Spans.{IsSpans}
use Rattle.lt_sense.proofs.ByKeyTaken.{AreDivided}
use Rattle.lt_sense.proofs.by_key_taking.divide.Given as goal

abbrev pub invariant-parts : goal.invariant-parts
invariant-parts l = record {
  sound : AllByRecursion IsSpans l.lists.items;
  others : AllByRecursion IsSpans l.others.items;
  left : AllByRecursion IsSpans l.parts.items;
  all : AreDivided (ranges_in l.fn.lists.items) (ranges_in l.fn.others.items) (ranges_in l.lists.items) (ranges_in l.others.items) l.key (ranges_in l.parts.items) (ranges_in l.fn.parts.items);
}

abbrev pub decreases-parts : goal.decreases-parts
decreases-parts l = length l.parts.items
