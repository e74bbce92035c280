use Rattle.std.proofs.Common.{take}
use Rattle.std.specs.Prelude.{flat_map}
use Rattle.lt_model.specs.Report.{print_text}
use Rattle.lt_report.proofs.Going.{Did}
use Rattle.lt_report.proofs.reply.put_prints.Given as goal

abbrev pub invariant-prints : goal.invariant-prints
invariant-prints g l = Did (g.K.Sink.holds l.fn.sink) (g.K.Sink.holds l.sink) (g.K.Sink.faults l.fn.sink) (g.K.Sink.faults l.sink) (flat_map print_text (take l.printed-index l.prints))
