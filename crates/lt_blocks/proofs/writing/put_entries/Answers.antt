use Rattle.std.proofs.Common.{◌+◌, drop, get_or, take}
use Rattle.std.proofs.lemmas.Result.{err_from_is_err_and}
use Rattle.lt_report.proofs.Going.{did_more, stops}
use Rattle.lt_report.proofs.Folding.{text-at, text-more}
use Rattle.lt_blocks.specs.Blocks.{entries_text, entry_text}
use Rattle.lt_blocks.proofs.Elements.{element_there}
use Rattle.lt_blocks.proofs.writing.put_entries.Goals as goal

pub returns-in_err-put_entry : goal.returns-in_err-put_entry
returns-in_err-put_entry g c =
    let p = err_from_is_err_and c.from_residual.result c.from_residual.ensures.1 in
    stops c.from_residual.result p.0 _ _ (g.K.Sink.holds c.each.sink) _ _ (g.K.Sink.faults c.each.sink) _ (entries_text (take c.each.entry-index c.args.entries.now)) _ _ (entries_text (drop (c.each.entry-index + 1) c.args.entries.now)) p.1 c.each.invariant c.in_err-put_entry.ensures
    (text-at entry_text c.args.entries.now c.each.entry-index (get_or c.args.entries.now c.each.entry-index _) c.each-test.true (element_there c.args.entries.now c.each.entry-index _ c.each-test.true))

pub each-preserved : goal.each-preserved
each-preserved g c =
    did_more _ (g.K.Sink.holds c.each.sink) _ _ (g.K.Sink.faults c.each.sink) _ (entries_text (take c.each.entry-index c.args.entries.now)) _ _ c.each.invariant c.in_ok-put_entry.ensures.ok c.in_ok-put_entry.ensures.cause.later
    (text-more entry_text c.args.entries.now c.each.entry-index (get_or c.args.entries.now c.each.entry-index _) c.each-test.true (element_there c.args.entries.now c.each.entry-index _ c.each-test.true))
