use Rattle.std.proofs.Common.{◌<◌, false, length, take, sym, ap, ◌∙◌, subst, arith}
use Rattle.std.specs.List.{AllByRecursion}
use Rattle.lt_face.proofs.RowLemmas.{each_at}
use Rattle.lt_sense.specs.Gathered.{ranges_in}
use Rattle.lt_sense.specs.Done.{IsDone}
use Rattle.lt_sense.specs.Spans.{have, ranges_of, IsSpans}
use Rattle.lt_sense.proofs.Costs.{held_set, indexes_set}
use Rattle.lt_sense.proofs.Done.{all_set, take_set, length_set}
use Rattle.lt_sense.proofs.Lies.{take_whole}
use Rattle.lt_sense.proofs.Said.{have_set}
use Rattle.lt_sense.proofs.Sorted.{all_push}
use Rattle.lt_sense.proofs.Spanned.{or_none}
use Rattle.lt_sense.proofs.sense.finish_all.Goals as goal

pub index_mut-requires : goal.index_mut-requires
index_mut-requires c = (let e = c.loop-at.invariant.long in omega (arith, c.loop-at-test.true, c.len-at-end.ensures, e))

pub finish-requires : goal.finish-requires
finish-requires c =
    let lists = c.loop-at.lists.items in
    let lt : c.loop-at.at < length lists = (let e = c.loop-at.invariant.long in omega (arith, c.loop-at-test.true, c.len-at-end.ensures, e)) in
    record { sound = subst IsSpans (sym c.index_mut.ensures.value) (each_at IsSpans lists c.loop-at.at c.index_mut.result.now c.loop-at.invariant.sound lt) }

pub loop-at-preserved : goal.loop-at-preserved
loop-at-preserved c =
    let lists = c.loop-at.lists.items in
    let at = c.loop-at.at in
    let s = c.index_mut.result.now in
    let t = c.finish.new.list in
    let lt : at < length lists = (let e = c.loop-at.invariant.long in omega (arith, c.loop-at-test.true, c.len-at-end.ensures, e)) in
    let done = c.in_ok-finish.ensures.done in
    let rows = c.in_ok-finish.ensures.rows in
    let same = c.in_ok-finish.ensures.same in
    record {
      long = length_set lists at t ∙ c.loop-at.invariant.long;
      sound = all_set IsSpans lists at t c.loop-at.invariant.sound done.sound;
      rows = λ relation row below. have_set lists at s t false relation row lt c.index_mut.ensures.value (rows relation row below ∙ sym (or_none (have (ranges_of s) relation row))) ∙ or_none (have (ranges_in lists) relation row) ∙ c.loop-at.invariant.rows relation row below;
      same = indexes_set lists at s t lt c.index_mut.ensures.value (ap (λ n. (n, t.columns)) same.relation ∙ ap (λ cs. (s.relation, cs)) same.columns) ∙ c.loop-at.invariant.same;
      few = (let a = held_set lists at s t 0 lt c.index_mut.ensures.value (let f = c.in_ok-finish.ensures.few in omega (arith, f)) in let b = c.loop-at.invariant.few in omega (arith, a, b));
      done = subst (AllByRecursion IsDone) (sym (take_set lists at t lt)) (all_push IsDone (take at lists) t c.loop-at.invariant.done done);
    }

pub returns-clause-done : goal.returns-clause-done
returns-clause-done c =
    let e = c.loop-at.invariant.long in
    subst (AllByRecursion IsDone) (take_whole c.loop-at.lists.items c.loop-at.at (omega (arith, e, c.loop-at-test.false, c.len-at-end.ensures))) c.loop-at.invariant.done
