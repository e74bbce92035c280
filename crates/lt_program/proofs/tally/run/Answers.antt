use Rattle.std.proofs.Common.{◌+◌, ◌≤◌, subst}
use Rattle.std.specs.Arc.{arc_value}
use Rattle.lt_base.specs.Tables.{state_of}
use Rattle.lt_program.specs.Tally.{ends_at}
use Rattle.lt_program.proofs.SplitCosts.{costs_whole, whole_least}
use Rattle.lt_program.proofs.tally.run.Goals as goal

pub run_kept_by-requires-clause-least : goal.run_kept_by-requires-clause-least
run_kept_by-requires-clause-least g c = whole_least

pub returns-clause-moves : goal.returns-clause-moves
returns-clause-moves g c =
    subst (λ n. c.run_kept_by.new.moves ≤ c.args.moves.now + n) (costs_whole (ends_at (arc_value c.args.prog.now) (state_of c.args.base.now)) (arc_value c.args.prog.now) (state_of c.args.base.now)) c.run_kept_by.ensures.moves
