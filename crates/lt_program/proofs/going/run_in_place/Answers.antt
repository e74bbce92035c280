use Rattle.std.proofs.Common.{◌+◌, ◌≤◌, subst}
use Rattle.lt_base.specs.Tables.{state_of}
use Rattle.lt_program.specs.Tally.{ends_at}
use Rattle.lt_program.proofs.SplitCosts.{costs_whole}
use Rattle.lt_program.proofs.going.run_in_place.Goals as goal

pub returns-clause-moves : goal.returns-clause-moves
returns-clause-moves g c = subst (λ n. c.run_by.new.moves ≤ c.args.moves.now + n) (costs_whole (ends_at c.args.prog.now (state_of c.args.db.now)) c.args.prog.now (state_of c.args.db.now)) c.run_by.ensures.moves
