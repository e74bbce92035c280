use Rattle.std.proofs.Common.{[], append-nil, sym}
use Rattle.std.proofs.lemmas.Result.{err_from_is_err_and}
use Rattle.lt_gen.specs.Summaries.{summary_text}
use Rattle.lt_report.proofs.Going.{did_of, ends, stops_first}
use Rattle.lt_world.proofs.Writing.{flushed}
use Rattle.lt_session.proofs.repair.write_summary.Goals as goal

pub returns-in_err-bench_summary : goal.returns-in_err-bench_summary
returns-in_err-bench_summary g c =
    let p = err_from_is_err_and c.from_residual.result c.from_residual.ensures.1 in
    let text = summary_text c.args.summary.now in
    stops_first c.from_residual.result p.0 _ _ _ _ _ text _ [] p.1 c.in_err-bench_summary.ensures (sym (append-nil text))

pub returns : goal.returns
returns g c =
    let text = summary_text c.args.summary.now in
    ends c.flush.result _ (g.K.Sink.holds c.bench_summary.new.sink) _ _ (g.K.Sink.faults c.bench_summary.new.sink) _ text [] _ (did_of _ _ _ _ _ _ text c.in_ok-bench_summary.ensures)
    (flushed c.flush.result _ _ _ _ c.flush.ensures.bytes c.flush.ensures.cause) (sym (append-nil text))
