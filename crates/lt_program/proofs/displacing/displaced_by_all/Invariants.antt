use Rattle.lt_base.specs.Tables.{state_of}
use Rattle.lt_program.proofs.KeysAll.{AreLookedTo}
use Rattle.lt_program.proofs.displacing.displaced_by_all.Given as goal

abbrev pub invariant-loop-row : goal.invariant-loop-row
invariant-loop-row g l = AreLookedTo (state_of l.tables) l.relation l.keys l.come l.row-index l.fn.sense l.sense l.displaced.items l.fn.moves l.moves
