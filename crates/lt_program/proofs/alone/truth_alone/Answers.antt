use Rattle.lt_program.proofs.KeptSlices.{joins_by}
use Rattle.lt_program.proofs.alone.truth_alone.Goals as goal

pub some_alone-requires : goal.some_alone-requires
some_alone-requires g c = record { can_join = joins_by c.args.tables.now c.args.body.now c.args.plan.now c.requires.can_follow }
