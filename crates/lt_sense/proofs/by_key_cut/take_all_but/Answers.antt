use Rattle.std.proofs.Common.{◌<◌, length, subst, sym, ap, ◌∙◌, arith}
use Rattle.lt_face.proofs.RowLemmas.{each_at}
use Rattle.lt_sense.specs.declared.spans.Span.{Span}
use Rattle.lt_sense.specs.Pieces.{piece_of}
use Rattle.lt_sense.specs.Spans.{ranges_of}
use Rattle.lt_sense.proofs.ByKeyAdded.{of_same_chain}
use Rattle.lt_sense.proofs.ByKeyCut.{but_next}
use Rattle.lt_sense.proofs.by_key_cut.take_all_but.Goals as goal

pub loop-i-preserved : goal.loop-i-preserved
loop-i-preserved c =
    let s = c.args.other.now in
    let span = c.index-span.result.now in
    let lt : c.loop-i.i < length s.ranges.items = omega (arith, c.loop-i-test.true, c.len-i-end.ensures) in
    let within : span.run < length s.runs.items = subst (λ (x : Span). x.run < length s.runs.items) (sym c.index-span.ensures) (each_at (λ (x : Span). x.run < length s.runs.items) s.ranges.items c.loop-i.i span c.requires.other.sound.ranges lt) in
    record {
      sound = c.in_ok-take_but.ensures.sound;
      same = of_same_chain c.args.list.now c.loop-i.list c.take_but.new.list c.loop-i.invariant.same c.in_ok-take_but.ensures.same;
      added = but_next c.args.keys.now s c.loop-i.i span c.index-run.result.now c.cells_of-prefix.result.now (ranges_of c.args.list.now) (ranges_of c.loop-i.list) (ranges_of c.take_but.new.list) lt c.index-span.ensures within c.index-run.ensures
          (c.cells_of-prefix.ensures ∙ ap (λ cs. piece_of cs c.index-run.result.now) c.deref.ensures.value) c.loop-i.invariant.added c.in_ok-take_but.ensures.added;
    }
