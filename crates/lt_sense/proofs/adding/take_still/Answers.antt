use Rattle.std.specs.Prelude.{nat_lt}
use Rattle.std.proofs.Common.{◌<◌, ◌≤◌, length, subst, sym, ap, ◌∙◌, arith}
use Rattle.lt_face.proofs.RowLemmas.{each_at}
use Rattle.lt_sense.specs.declared.spans.Span.{Span}
use Rattle.lt_sense.specs.Pieces.{piece_of}
use Rattle.lt_sense.specs.Spans.{ranges_of}
use Rattle.lt_sense.proofs.Added.{still_added, still_whole}
use Rattle.lt_sense.proofs.Costs.{count_le}
use Rattle.lt_sense.proofs.ByKeyAdded.{of_same_chain}
use Rattle.lt_sense.proofs.adding.take_still.Goals as goal

pub loop-i-preserved : goal.loop-i-preserved
loop-i-preserved c =
    let s = c.args.other.now in
    let span = c.index-span.result.now in
    let lt : c.loop-i.i < length s.ranges.items = omega (arith, c.loop-i-test.true, c.len-i-end.ensures) in
    let within : span.run < length s.runs.items = subst (λ (x : Span). x.run < length s.runs.items) (sym c.index-span.ensures) (each_at (λ (x : Span). x.run < length s.runs.items) s.ranges.items c.loop-i.i span c.requires.other.ranges lt) in
    record {
      sound = c.in_ok-take_range.ensures.sound;
      same = of_same_chain c.args.list.now c.loop-i.list c.take_range.new.list c.loop-i.invariant.same c.in_ok-take_range.ensures.same;
      added = still_added s c.loop-i.i span c.index-run.result.now c.cells_of-prefix.result.now (ranges_of c.args.list.now) (ranges_of c.loop-i.list) (ranges_of c.take_range.new.list) lt c.index-span.ensures within c.index-run.ensures
          (c.cells_of-prefix.ensures ∙ ap (λ cs. piece_of cs c.index-run.result.now) c.deref.ensures.value) c.loop-i.invariant.added c.in_ok-take_range.ensures.added;
      few = (let a = c.loop-i.invariant.few in let b = c.in_ok-take_range.ensures.few in let e = count_le (nat_lt span.lo span.hi) in omega (arith, a, b, e));
    }

pub returns-clause-added : goal.returns-clause-added
returns-clause-added c =
    let s = c.args.other.now in
    let le : length s.ranges.items ≤ c.loop-i.i = omega (arith, c.loop-i-test.false, c.len-i-end.ensures) in
    still_whole s c.loop-i.i (ranges_of c.args.list.now) (ranges_of c.loop-i.list) le c.loop-i.invariant.added

pub returns-clause-few : goal.returns-clause-few
returns-clause-few c =
    let a = c.loop-i.invariant.few in
    omega (arith, a, c.loop-i.auto.i-end, c.len-i-end.ensures)
