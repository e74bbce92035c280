use Rattle.std.proofs.Common.{◌<◌, length, subst, sym, ap, ◌∙◌, arith}
use Rattle.lt_face.proofs.RowLemmas.{each_at}
use Rattle.lt_sense.specs.declared.covering.KeptGap.{KeptGap}
use Rattle.lt_sense.specs.declared.spans.Span.{Span}
use Rattle.lt_sense.specs.ByKeyTold.{AllBegin}
use Rattle.lt_sense.specs.Pieces.{piece_of}
use Rattle.lt_sense.proofs.ByKeyTaken.{stills_next, stills_whole}
use Rattle.lt_sense.proofs.by_key_taking.are_stills_under.Goals as goal

pub loop-i-preserved : goal.loop-i-preserved
loop-i-preserved c =
    let s = c.args.list.now in
    let span = c.index-span.result.now in
    let lt : c.loop-i.i < length s.ranges.items = omega (arith, c.loop-i-test.true, c.len-i-end.ensures) in
    let within : span.run < length s.runs.items = subst (λ (x : Span). x.run < length s.runs.items) (sym c.index-span.ensures) (each_at (λ (x : Span). x.run < length s.runs.items) s.ranges.items c.loop-i.i span c.requires.ranges lt) in
    stills_next (λ (range : KeptGap). AllBegin c.args.key range.prefix range.lo range.hi) s c.loop-i.i span c.index-run.result.now c.cells_of.result.now lt c.index-span.ensures within c.index-run.ensures
    (c.cells_of.ensures ∙ ap (λ cs. piece_of cs c.index-run.result.now) c.deref.ensures.value) c.loop-i.invariant (c.is_under.ensures c.if-not-is_under.false)

pub returns : goal.returns
returns c _ = stills_whole (λ (range : KeptGap). AllBegin c.args.key range.prefix range.lo range.hi) c.args.list.now c.loop-i.i (omega (arith, c.loop-i-test.false, c.len-i-end.ensures)) c.loop-i.invariant
