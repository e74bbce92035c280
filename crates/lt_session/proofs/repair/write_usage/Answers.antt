use Rattle.std.proofs.Common.{[], append-nil, sym}
use Rattle.std.proofs.lemmas.Result.{err_from_is_err_and}
use Rattle.lt_model.specs.Report.{usage_text}
use Rattle.lt_report.proofs.Going.{did_of, ends, stops_first}
use Rattle.lt_world.proofs.Writing.{flushed}
use Rattle.lt_session.proofs.repair.write_usage.Goals as goal

pub returns-in_err-put_usage : goal.returns-in_err-put_usage
returns-in_err-put_usage g c =
    let p = err_from_is_err_and c.from_residual.result c.from_residual.ensures.1 in
    stops_first c.from_residual.result p.0 _ _ _ _ _ usage_text _ [] p.1 c.in_err-put_usage.ensures (sym (append-nil usage_text))

pub returns : goal.returns
returns g c =
    ends c.flush.result _ (g.K.Sink.holds c.put_usage.new.sink) _ _ (g.K.Sink.faults c.put_usage.new.sink) _ usage_text [] _ (did_of _ _ _ _ _ _ usage_text c.in_ok-put_usage.ensures)
    (flushed c.flush.result _ _ _ _ c.flush.ensures.bytes c.flush.ensures.cause) (sym (append-nil usage_text))
