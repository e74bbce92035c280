use Rattle.std.specs.Arc.{arc_value}
use Rattle.lt_readers.specs.Boards.{reader_board}
use Rattle.lt_runs.proofs.Asked.{asked_more}
use Rattle.lt_runs.proofs.beside.asking.ask.Goals as goal

pub loop-turn-preserved : goal.loop-turn-preserved
loop-turn-preserved g c =
    rw c.in_ok-push.ensures.items (asked_more (arc_value c.args.asked.now) (reader_board c.args.reader.now) c.loop-turn.reader c.ask_once.new.reader c.loop-turn.answers.items c.loop-turn._turn c.in_ok-answer.answer
    c.loop-turn.invariant c.in_ok-answer.ensures.answer c.ask_once.ensures.begins c.ask_once.ensures.board)
