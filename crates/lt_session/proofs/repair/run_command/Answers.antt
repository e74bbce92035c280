use Rattle.std.proofs.Common.{subst, sym}
use Rattle.std.proofs.KnownBytes.{Keeps-refl}
use Rattle.std.specs.Prelude.{Some}
use Rattle.lt_command.specs.declared.words.Command.{Command}
use Rattle.lt_session.specs.CommandEnds.{CommandEndsAs}
use Rattle.lt_session.proofs.repair.run_command.Goals as goal

pub returns-in-Run : goal.returns-in-Run
returns-in-Run g c =
    subst (λ (q : Command). CommandEndsAs (Some q) c.run_script.result (g.S.Source.left c.args.source.now) (g.S.Source.left c.run_script.new.source) (g.S.Source.faults c.args.source.now) (g.S.Source.faults c.run_script.new.source)
    (g.K.Sink.holds c.args.sink.now) (g.K.Sink.holds c.run_script.new.sink) (g.K.Sink.faults c.args.sink.now) (g.K.Sink.faults c.run_script.new.sink)) (sym c.in-Run.is) c.run_script.ensures

pub returns-in-Bench : goal.returns-in-Bench
returns-in-Bench g c =
    subst (λ (q : Command). CommandEndsAs (Some q) c.run_bench.result (g.S.Source.left c.args.source.now) (g.S.Source.left c.args.source.now) (g.S.Source.faults c.args.source.now) (g.S.Source.faults c.args.source.now)
    (g.K.Sink.holds c.args.sink.now) (g.K.Sink.holds c.run_bench.new.sink) (g.K.Sink.faults c.args.sink.now) (g.K.Sink.faults c.run_bench.new.sink)) (sym c.in-Bench.is) (Keeps-refl (g.S.Source.left c.args.source.now), c.run_bench.ensures)

pub returns-in-Replay : goal.returns-in-Replay
returns-in-Replay g c =
    subst (λ (q : Command). CommandEndsAs (Some q) c.run_replay.result (g.S.Source.left c.args.source.now) (g.S.Source.left c.run_replay.new.source) (g.S.Source.faults c.args.source.now) (g.S.Source.faults c.run_replay.new.source)
    (g.K.Sink.holds c.args.sink.now) (g.K.Sink.holds c.run_replay.new.sink) (g.K.Sink.faults c.args.sink.now) (g.K.Sink.faults c.run_replay.new.sink)) (sym c.in-Replay.is) c.run_replay.ensures
