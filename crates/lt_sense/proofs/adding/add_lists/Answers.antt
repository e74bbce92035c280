use Rattle.std.proofs.Common.{◌<◌, length, take, sym, ap, ◌∙◌, subst, arith}
use Rattle.lt_sense.specs.ByKeyTold.{TellAll}
use Rattle.lt_sense.specs.Gathered.{ranges_in}
use Rattle.lt_sense.specs.Held.{held_in, index_of, indexes, AreMoreIndexes}
use Rattle.lt_sense.proofs.Added.{all_none, lists_added}
use Rattle.lt_sense.proofs.ByKeyAdded.{tell_none, tell_next}
use Rattle.lt_sense.proofs.Costs.{held_next, indexes_next}
use Rattle.lt_sense.proofs.Lies.{take_next, take_whole}
use Rattle.lt_sense.proofs.Tallied.{none_more, more_next}
use Rattle.lt_sense.proofs.adding.add_lists.Goals as goal

pub loop-i-preserved : goal.loop-i-preserved
loop-i-preserved c =
    let others = c.args.others.now.items in
    let lt : c.loop-i.i < length others = omega (arith, c.loop-i-test.true, c.len-i-end.ensures) in
    record {
      sound = c.in_ok-add_list.ensures.sound;
      added = lists_added others c.loop-i.i c.index.result.now (ranges_in c.args.lists.now.items) (ranges_in c.loop-i.lists.items) (ranges_in c.add_list.new.lists.items) lt c.index.ensures
          c.loop-i.invariant.added c.in_ok-add_list.ensures.added;
      told = tell_next others c.loop-i.i c.index.result.now (ranges_in c.args.lists.now.items) (ranges_in c.loop-i.lists.items) (ranges_in c.add_list.new.lists.items) lt c.index.ensures
          c.loop-i.invariant.told c.in_ok-add_list.ensures.told;
      came = subst (AreMoreIndexes (indexes c.args.lists.now.items) (indexes c.add_list.new.lists.items)) (sym (ap indexes (take_next others c.loop-i.i c.index.result.now lt c.index.ensures) ∙ indexes_next (take c.loop-i.i others) c.index.result.now))
          (more_next (indexes c.args.lists.now.items) (indexes c.loop-i.lists.items) (indexes c.add_list.new.lists.items) (indexes (take c.loop-i.i others)) (index_of c.index.result.now) c.loop-i.invariant.came c.in_ok-add_list.ensures.indexes);
      few = (let a = c.loop-i.invariant.few in let b = c.in_ok-add_list.ensures.few in let e = ap held_in (take_next others c.loop-i.i c.index.result.now lt c.index.ensures) ∙ held_next (take c.loop-i.i others) c.index.result.now in omega (arith, a, b, e));
    }

pub loop-i-init : goal.loop-i-init
loop-i-init c = record {
  sound = c.requires.sound;
  added = all_none (ranges_in c.args.lists.now.items);
  told = tell_none (ranges_in c.args.lists.now.items);
  came = none_more (indexes c.args.lists.now.items);
  few = omega arith;
}

pub returns-clause-told : goal.returns-clause-told
returns-clause-told c =
    let others = c.args.others.now.items in
    subst (λ xs. TellAll (ranges_in c.args.lists.now.items) (ranges_in c.loop-i.lists.items) (ranges_in xs)) (take_whole others c.loop-i.i (omega (arith, c.loop-i-test.false, c.len-i-end.ensures))) c.loop-i.invariant.told

pub returns-clause-indexes : goal.returns-clause-indexes
returns-clause-indexes c =
    let others = c.args.others.now.items in
    subst (λ xs. AreMoreIndexes (indexes c.args.lists.now.items) (indexes c.loop-i.lists.items) (indexes xs)) (take_whole others c.loop-i.i (omega (arith, c.loop-i-test.false, c.len-i-end.ensures))) c.loop-i.invariant.came

pub returns-clause-few : goal.returns-clause-few
returns-clause-few c =
    let others = c.args.others.now.items in
    let e = ap held_in (take_whole others c.loop-i.i (omega (arith, c.loop-i-test.false, c.len-i-end.ensures))) in
    let a = c.loop-i.invariant.few in
    omega (arith, a, e)
