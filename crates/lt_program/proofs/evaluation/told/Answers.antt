use Rattle.lt_program.proofs.KeptSlices.{joins_by}
use Rattle.lt_program.proofs.evaluation.told.Goals as goal

pub some-requires : goal.some-requires
some-requires g c = record { can_join = joins_by c.args.tables.now c.args.body.now c.args.plan.now c.requires.can_follow }
