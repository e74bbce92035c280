use Rattle.std.proofs.Common.{◌≡◌, ◌-◌, length, take, slice_get, sym, ap, ◌∙◌, arith}
use lib.Pointwise.{bytes_decides}
use Rattle.lt_sense.specs.Spans.{prefix_in}
use Rattle.lt_sense.specs.Pieces.{piece_of}
use Rattle.lt_sense.proofs.Lies.{get_there}
use Rattle.lt_sense.proofs.Spanned.{last_prefix}
use Rattle.lt_sense.proofs.spans.Spans.is_last_run.Goals as goal

pub returns-clause-run : goal.returns-clause-run
returns-clause-run c so =
    let s = c.args.self.now in
    let count : c.len-count.result ≡ length s.runs.items = omega (arith, c.len-count.ensures) in
    let piece = c.index.result.now in
    let at : c.len-count.result - 1 ≡ length s.runs.items - 1 = ap (λ n. n - 1) count in
    let there = get_there s.runs.items (c.len-count.result - 1) piece (let e = c.if-count-eq0.false in omega (arith, count, e)) c.index.ensures in
    let same = (bytes_decides _ _).0 (sym c.eq.ensures ∙ so) in
    ap (λ n. prefix_in s.cells.items (slice_get s.runs.items n)) (sym at)
    ∙ last_prefix s.runs.items s.cells.items (c.len-count.result - 1) piece there
    ∙ ap (λ cs. piece_of cs piece) (sym c.deref.ensures.value) ∙ sym c.cells_of.ensures ∙ same ∙ ap (take c.args.depth) c.cells.ensures.cells
