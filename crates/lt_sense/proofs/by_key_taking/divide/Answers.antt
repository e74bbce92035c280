use Rattle.std.proofs.Common.{subst}
use Rattle.std.specs.List.{AllByRecursion}
use Rattle.lt_sense.specs.Gathered.{ranges_in}
use Rattle.lt_sense.specs.Spans.{IsSpans}
use Rattle.lt_sense.proofs.ByKeyTaken.{divided_next}
use Rattle.lt_sense.proofs.Sorted.{all_init}
use Rattle.lt_sense.proofs.by_key_taking.divide.Goals as goal

pub parts-preserved : goal.parts-preserved
parts-preserved c = record {
  sound = c.in_ok-take_list.ensures.sound;
  others = c.in_ok-take_list.ensures.others;
  left = (all_init IsSpans c.pop.new.self.items c.in-Some.list (subst (AllByRecursion IsSpans) c.in-Some.ensures.items c.parts.invariant.left)).0;
  all = divided_next (ranges_in c.args.lists.now.items) (ranges_in c.args.others.now.items) (ranges_in c.parts.lists.items) (ranges_in c.parts.others.items) (ranges_in c.take_list.new.lists.items) (ranges_in c.take_list.new.others.items) c.args.key c.parts.parts.items c.pop.new.self.items c.in-Some.list (ranges_in c.args.parts.items)
      c.in-Some.ensures.items c.parts.invariant.all c.in_ok-take_list.ensures.taken;
}
