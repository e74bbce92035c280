use Rattle.std.proofs.Common.{sym, subst}
use Rattle.lt_model.specs.Report.{show_text}
use Rattle.lt_report.specs.Puts.{Puts}
use Rattle.lt_report.specs.Texts.{held}
use Rattle.lt_report.proofs.show.put_rows.Goals as goal

pub returns-in-Some : goal.returns-in-Some
returns-in-Some g c =
    subst (λ rows. Puts c.put_held.result (g.K.Sink.holds c.args.sink.now) (g.K.Sink.holds c.put_held.new.sink) (g.K.Sink.faults c.args.sink.now) (g.K.Sink.faults c.put_held.new.sink) (show_text c.args.name.now c.args.at c.args.kinds.now (held g.R.RowReads.rows rows)))
    (sym c.in-Some.is) c.put_held.ensures
