use Rattle.std.proofs.Common.{map, subst, sym, ◌∙◌}
use Rattle.std.specs.Prelude.{Option, string_bytes}
use Rattle.lt_command.specs.declared.words.Command.{Command}
use Rattle.lt_command.specs.Command.{command}
use Rattle.lt_session.specs.CommandEnds.{CommandEndsAs}
use Rattle.lt_session.proofs.CommandEnds.{none_done}
use Rattle.lt_session.proofs.repair.run_words.Goals as goal

pub returns-in_default : goal.returns-in_default
returns-in_default g c = none_done (command (map string_bytes c.args.words.now)) _ _ _ _

pub returns-in-Some : goal.returns-in-Some
returns-in-Some g c =
    subst (λ (o : Option Command). CommandEndsAs o c.run_command.result (g.S.Source.left c.args.source.now) (g.S.Source.left c.run_command.new.source) (g.S.Source.faults c.args.source.now) (g.S.Source.faults c.run_command.new.source)
    (g.K.Sink.holds c.args.sink.now) (g.K.Sink.holds c.run_command.new.sink) (g.K.Sink.faults c.args.sink.now) (g.K.Sink.faults c.run_command.new.sink)) (sym c.in-Some.is ∙ c.in-Ok.ensures.value) c.run_command.ensures

pub returns-in-None : goal.returns-in-None
returns-in-None g c =
    subst (λ (o : Option Command). CommandEndsAs o c.refuse_words.result (g.S.Source.left c.args.source.now) (g.S.Source.left c.args.source.now) (g.S.Source.faults c.args.source.now) (g.S.Source.faults c.args.source.now)
    (g.K.Sink.holds c.args.sink.now) (g.K.Sink.holds c.refuse_words.new.sink) (g.K.Sink.faults c.args.sink.now) (g.K.Sink.faults c.refuse_words.new.sink)) (sym c.in-None.is ∙ c.in-Ok.ensures.value) c.refuse_words.ensures.ends
