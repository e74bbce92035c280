use Rattle.std.proofs.Common.{◌<◌, length, take, sym, ◌∙◌, subst, arith}
use Rattle.std.specs.List.{AllByRecursion}
use Rattle.lt_face.proofs.RowLemmas.{each_at}
use Rattle.lt_sense.specs.Gathered.{ranges_in}
use Rattle.lt_sense.specs.Done.{IsDone}
use Rattle.lt_sense.specs.Spans.{IsSpans}
use Rattle.lt_sense.proofs.ByKeyAdded.{list_same, tell_chain, tell_set_same}
use Rattle.lt_sense.proofs.Done.{all_set, take_set, length_set}
use Rattle.lt_sense.proofs.Lies.{take_whole}
use Rattle.lt_sense.proofs.Sorted.{all_push}
use Rattle.lt_sense.proofs.by_key_lists.finish_keyed.Goals as goal

pub index_mut-requires : goal.index_mut-requires
index_mut-requires c = (let e = c.loop-at.invariant.long in omega (arith, c.loop-at-test.true, c.len-at-end.ensures, e))

pub finish-requires : goal.finish-requires
finish-requires c =
    let lists = c.loop-at.lists.items in
    let lt : c.loop-at.at < length lists = (let e = c.loop-at.invariant.long in omega (arith, c.loop-at-test.true, c.len-at-end.ensures, e)) in
    record { sound = subst IsSpans (sym c.index_mut.ensures.value) (each_at IsSpans lists c.loop-at.at c.index_mut.result.now c.loop-at.invariant.sound lt) }

pub loop-at-preserved : goal.loop-at-preserved
loop-at-preserved c =
    let lists = c.loop-at.lists.items in
    let at = c.loop-at.at in
    let s = c.index_mut.result.now in
    let t = c.finish.new.list in
    let lt : at < length lists = (let e = c.loop-at.invariant.long in omega (arith, c.loop-at-test.true, c.len-at-end.ensures, e)) in
    let done = c.in_ok-finish.ensures.done in
    record {
      long = length_set lists at t ∙ c.loop-at.invariant.long;
      sound = all_set IsSpans lists at t c.loop-at.invariant.sound done.sound;
      rows = tell_chain (ranges_in c.args.lists.now.items) (ranges_in lists) _ c.loop-at.invariant.rows (tell_set_same lists at s t lt c.index_mut.ensures.value (list_same s t c.in_ok-finish.ensures.same c.in_ok-finish.ensures.rows));
      done = subst (AllByRecursion IsDone) (sym (take_set lists at t lt)) (all_push IsDone (take at lists) t c.loop-at.invariant.done done);
    }

pub returns-clause-done : goal.returns-clause-done
returns-clause-done c =
    let e = c.loop-at.invariant.long in
    subst (AllByRecursion IsDone) (take_whole c.loop-at.lists.items c.loop-at.at (omega (arith, e, c.loop-at-test.false, c.len-at-end.ensures))) c.loop-at.invariant.done
