use Rattle.std.proofs.Common.{◌+◌, ◌≤◌, length, subst}
use Rattle.std.specs.Prelude.{slice_get}
use Rattle.lt_base.specs.Tables.{state_of}
use Rattle.lt_program.specs.Tally.{state_before}
use Rattle.lt_program.proofs.SplitCosts.{on_whole, whole_least}
use Rattle.lt_program.proofs.tally.Tally.evaluate.Goals as goal

pub evaluate_by-requires-clause-least : goal.evaluate_by-requires-clause-least
evaluate_by-requires-clause-least g c = whole_least

pub returns-clause-moves : goal.returns-clause-moves
returns-clause-moves g c =
    let t = c.args.self.now in
    subst (λ n. c.evaluate_by.new.moves ≤ c.args.moves.now + n) (on_whole (slice_get t.program (length t.parts)) (state_before (length t.parts) t.program (state_of t.base))) c.evaluate_by.ensures.moves
