use Rattle.std.specs.Arc.{arc_value}
use Rattle.lt_check.proofs.Fitting.{good_fits}
use Rattle.lt_world.proofs.judging.judged.Goals as goal

pub returns-in-Some-clause-fits : goal.returns-in-Some-clause-fits
returns-in-Some-clause-fits c = λ state fits. good_fits c.args.schema.now state c.args.program.now (arc_value c.in-Some.planned) c.requires.within fits c.headings-keyed.ensures.keyed c.in-Some.ensures.good

pub returns-in-Ok-clause-fits : goal.returns-in-Ok-clause-fits
returns-in-Ok-clause-fits c = λ state fits. good_fits c.args.schema.now state c.args.program.now (arc_value c.in-Ok.planned) c.requires.within fits c.headings-keyed.ensures.keyed c.in-Ok.ensures.good
