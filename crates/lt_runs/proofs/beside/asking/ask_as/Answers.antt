use Rattle.std.specs.Arc.{arc_value}
use Rattle.lt_runs.proofs.Asked.{none_asked}
use Rattle.lt_runs.proofs.beside.asking.ask_as.Goals as goal

pub ask-requires-clause-ready : goal.ask-requires-clause-ready
ask-requires-clause-ready g c = λ lifetimes outlive. none_asked (arc_value c.args.asked.now) c.args.asker c.requires
