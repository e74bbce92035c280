use Rattle.lt_program.proofs.KeptSlices.{level_there}
use Rattle.lt_program.proofs.slicing.has_level.Goals as goal

pub returns : goal.returns
returns c = level_there c.args.body.now c.len.result c.requires.widths c.len.ensures
