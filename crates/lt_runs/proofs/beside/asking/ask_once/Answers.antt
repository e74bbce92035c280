use Rattle.std.specs.Arc.{arc_value}
use Rattle.lt_readers.specs.Boards.{seen}
use Rattle.lt_runs.proofs.Asked.{last_answer, ready_fits}
use Rattle.lt_runs.proofs.beside.asking.ask_once.Goals as goal

pub query-requires-clause-fits : goal.query-requires-clause-fits
query-requires-clause-fits g c = λ lifetimes outlive. ready_fits (arc_value c.args.asked.now) (seen c.args.reader.now) c.requires.ready

pub returns-clause-answer : goal.returns-clause-answer
returns-clause-answer g c = last_answer (arc_value c.args.asked.now) (seen c.query.new.self) c.in_ok-answer.answer c.in_ok-answer.ensures.reply
