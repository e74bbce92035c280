use Rattle.std.proofs.Common.{◌+◌, drop, sym, take}
use Rattle.std.specs.Prelude.{flat_map}
use Rattle.std.proofs.lemmas.Result.{err_from_is_err_and}
use Rattle.lt_model.specs.Report.{print_text}
use Rattle.lt_report.proofs.Going.{stops}
use Rattle.lt_report.proofs.Folding.{text-at}
use Rattle.lt_report.proofs.reply.put_prints.Goals as goal

pub returns-in_err-put_print : goal.returns-in_err-put_print
returns-in_err-put_print g c =
    let p = err_from_is_err_and c.from_residual.result c.from_residual.ensures.1 in
    stops c.from_residual.result p.0 _ _ (g.K.Sink.holds c.prints.sink) _ _ (g.K.Sink.faults c.prints.sink) _ (flat_map print_text (take c.prints.printed-index c.args.prints.now)) _ _ (flat_map print_text (drop (c.prints.printed-index + 1) c.args.prints.now)) p.1 c.prints.invariant c.in_err-put_print.ensures
    (text-at print_text c.args.prints.now c.prints.printed-index _ c.prints-test.true (sym c.printed-item.is))
