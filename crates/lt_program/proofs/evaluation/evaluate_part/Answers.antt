use Rattle.lt_base.specs.Tables.{state_of}
use Rattle.lt_program.proofs.evaluation.evaluate_part.Goals as goal

pub is_sliced-requires : goal.is_sliced-requires
is_sliced-requires g c = record { fits = (state_of c.args.tables.now, c.requires.can_evaluate.wide, c.requires.can_evaluate.fits) }
