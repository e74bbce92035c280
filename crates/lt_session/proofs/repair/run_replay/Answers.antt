use Rattle.std.proofs.Common.{arith, subst, sym}
use Rattle.lt_runs.specs.declared.replay.Verdict.{Verdict}
use Rattle.lt_runs.specs.declared.status.Status.{Status}
use Rattle.lt_runs.specs.ReplayEnds.{IsReplayWritten, ReplayEndsAs}
use Rattle.lt_runs.proofs.ReplayEnded.{ends_stopped, written_cut, written_kept}
use Rattle.lt_session.proofs.repair.run_replay.Goals as goal

pub returns-in-Err : goal.returns-in-Err
returns-in-Err g c =
    subst (λ (status : Status). ReplayEndsAs c.args.marks status (g.S.Source.left c.args.source.now) (g.S.Source.left c.write_replayed.new.source) (g.S.Source.faults c.args.source.now) (g.S.Source.faults c.write_replayed.new.source)
    (g.K.Sink.holds c.args.sink.now) (g.K.Sink.holds c.write_replayed.new.sink) (g.K.Sink.faults c.args.sink.now) (g.K.Sink.faults c.write_replayed.new.sink)) (sym c.status_of.ensures)
    (ends_stopped c.args.marks c.in-Err.stop _ _ _ _ _ _ _ _ c.in-Err.ensures.err)

pub returns-in_default : goal.returns-in_default
returns-in_default g c = (omega (arith, c.write_replayed.ensures.later, c.in_default.ensures.cause.failed), written_cut c.args.marks c.in-Ok.verdict _ _ _ _ _ c.in-Ok.ensures.ok c.in_default.ensures.bytes)

pub returns-in-Good : goal.returns-in-Good
returns-in-Good g c =
    subst (λ (v : Verdict). IsReplayWritten c.args.marks v (g.S.Source.left c.args.source.now) (g.S.Source.left c.write_replayed.new.source) (g.K.Sink.holds c.args.sink.now) (g.K.Sink.holds c.flush.new.self)) c.in-Good.is
    (written_kept c.args.marks c.in-Ok.verdict _ _ _ _ _ c.in-Ok.ensures.ok c.flush.ensures.bytes)

pub returns-in-Faulty : goal.returns-in-Faulty
returns-in-Faulty g c =
    subst (λ (v : Verdict). IsReplayWritten c.args.marks v (g.S.Source.left c.args.source.now) (g.S.Source.left c.write_replayed.new.source) (g.K.Sink.holds c.args.sink.now) (g.K.Sink.holds c.flush.new.self)) c.in-Faulty.is
    (written_kept c.args.marks c.in-Ok.verdict _ _ _ _ _ c.in-Ok.ensures.ok c.flush.ensures.bytes)

pub returns-in-BadTrace : goal.returns-in-BadTrace
returns-in-BadTrace g c =
    subst (λ (v : Verdict). IsReplayWritten c.args.marks v (g.S.Source.left c.args.source.now) (g.S.Source.left c.write_replayed.new.source) (g.K.Sink.holds c.args.sink.now) (g.K.Sink.holds c.flush.new.self)) c.in-BadTrace.is
    (written_kept c.args.marks c.in-Ok.verdict _ _ _ _ _ c.in-Ok.ensures.ok c.flush.ensures.bytes)
