use Rattle.std.proofs.Common.{subst}
use Rattle.lt_gen.specs.declared.summary.Summary.{Summary}
use Rattle.lt_gen.specs.Summaries.{summary_text}
use Rattle.lt_report.specs.Puts.{AppendsFront}
use Rattle.lt_session.proofs.repair.run_bench.Goals as goal

pub returns-in-Err : goal.returns-in-Err
returns-in-Err g c = (
  c.in-Err.ensures.cause.failed,
  subst (λ (s : Summary). AppendsFront (g.K.Sink.holds c.args.sink.now) (g.K.Sink.holds c.write_summary.new.sink) (summary_text s)) c.in-Ok.ensures c.in-Err.ensures.err,
)
