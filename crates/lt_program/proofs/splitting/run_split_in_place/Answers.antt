use Rattle.lt_program.proofs.splitting.run_split_in_place.Goals as goal

pub returns-clause-moves : goal.returns-clause-moves
returns-clause-moves g c = c.run_by.ensures.moves
