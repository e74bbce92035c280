use Rattle.std.specs.Arc.{arc_value}
use Rattle.lt_readers.specs.Boards.{reader_board}
use Rattle.lt_runs.specs.Reading.{HasAsked}
use Rattle.lt_runs.proofs.beside.asking.ask.Given as goal

abbrev pub invariant-loop-turn : goal.invariant-loop-turn
invariant-loop-turn g l = HasAsked (arc_value l.asked) (reader_board l.fn.reader) l.reader l.answers.items l._turn
