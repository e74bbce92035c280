use Rattle.std.proofs.Common.{◌∙◌, inl, subst}
use Rattle.lt_report.specs.Puts.{AppendsFront}
use Rattle.lt_report.specs.Traces.{bad_trace_text}
use Rattle.lt_runs.proofs.ReplayEnded.{on_err}
use Rattle.lt_world.proofs.Versions.{count}
use Rattle.lt_runs.proofs.replay.close.Goals as goal

pub returns-in_err-put_bad_trace-clause-part : goal.returns-in_err-put_bad_trace-clause-part
returns-in_err-put_bad_trace-clause-part g c =
    on_err c.from_residual.result (λ m shows.
    let more = (c.has_next_block.ensures m shows).0 c.if-has_next_block.true in
    inl (
      more,
      subst (λ n. AppendsFront (g.K.Sink.holds c.args.sink.now) (g.K.Sink.holds c.put_bad_trace.new.sink) (bad_trace_text n 0)) (c.next_batch.ensures ∙ count m _ shows.versions) c.in_err-put_bad_trace.ensures.err,
    ))
