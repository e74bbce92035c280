use Rattle.std.proofs.Common.{◌++◌, List, length, ap, sym}
use Rattle.std.proofs.lemmas.Result.{err_from_is_err_and}
use Rattle.lt_batch.specs.declared.replaying.Written.{Written}
use Rattle.lt_report.proofs.Going.{did_of, ends, stops_first}
use Rattle.lt_report.specs.Traces.{trace_text}
use Rattle.lt_blocks.specs.Blocks.{entries_text}
use Rattle.lt_blocks.proofs.writing.put_block.Goals as goal

pub returns-in_err-put_trace : goal.returns-in_err-put_trace
returns-in_err-put_trace g c =
    let p = err_from_is_err_and c.from_residual.result c.from_residual.ensures.1 in
    let b = c.args.block.now in
    stops_first c.from_residual.result p.0 _ _ _ _ _ (trace_text b.number b.programs (length c.as_slice-entries.result.now)) _ (entries_text b.entries) p.1 c.in_err-put_trace.ensures
    (ap (λ (es : List Written). trace_text b.number b.programs (length es) ++ entries_text b.entries) (sym c.as_slice-entries.ensures))

pub returns : goal.returns
returns g c =
    let b = c.args.block.now in
    let first = trace_text b.number b.programs (length c.as_slice-entries.result.now) in
    ends c.put_entries.result _ (g.K.Sink.holds c.put_trace.new.sink) _ _ (g.K.Sink.faults c.put_trace.new.sink) _ first (entries_text c.as_slice-entries.result.now) _ (did_of _ _ _ _ _ _ first c.in_ok-put_trace.ensures) c.put_entries.ensures
    (ap (λ (es : List Written). trace_text b.number b.programs (length es) ++ entries_text es) (sym c.as_slice-entries.ensures))
